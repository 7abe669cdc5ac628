use Rattle.std.proofs.Common.{◌≡◌, ◌+◌, ◌*◌, length}
use Rattle.model_files.specs.Bytes.{block_length}
use Rattle.model_files.specs.File.{bounds_bytes}
use Rattle.model_problems.specs.Lists.{parts}
use Rattle.block.specs.Placed.{Placed}
use Rattle.problem.specs.View.{problem_of}
use Rattle.file_blocks.proofs.writer.put_bounds.Given as goal

-- The bounds before i stand after the sizes.
abbrev pub invariant-loop-i : goal.invariant-loop-i
invariant-loop-i l = (length l.head ≡ block_length) × Placed l.initial.head 12 (12 + 8 * l.i) (parts (bounds_bytes (problem_of l.problem)) 0 l.i) l.head
