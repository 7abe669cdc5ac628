use Rattle.std.proofs.Common.{◌≡◌, ◌+◌, ◌*◌, length}
use Rattle.model_files.specs.Bytes.{block_length}
use Rattle.model_files.specs.File.{threshold_bytes}
use Rattle.model_problems.specs.Lists.{parts}
use Rattle.block.specs.Placed.{Placed}
use Rattle.problem.specs.View.{problem_of}
use Rattle.file_blocks.proofs.writer.put_thresholds.Given as goal

-- The thresholds before i stand in their place.
abbrev pub invariant-loop-i : goal.invariant-loop-i
invariant-loop-i l = (length l.head ≡ block_length) × Placed l.initial.head 268 (268 + 4 * l.i) (parts (threshold_bytes (problem_of l.problem)) 0 l.i) l.head
