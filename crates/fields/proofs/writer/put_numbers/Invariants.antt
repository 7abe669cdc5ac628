use Rattle.std.proofs.Common.{◌≡◌, ◌*◌, length}
use Rattle.model_files.specs.Bytes.{block_length}
use Rattle.model_problems.specs.Lists.{parts}
use Rattle.block.specs.Placed.{Placed}
use Rattle.fields.proofs.Writing.{number_bytes}
use Rattle.fields.proofs.writer.put_numbers.Given as goal

-- The numbers before i stand at the block's start.
abbrev pub invariant-loop-i : goal.invariant-loop-i
invariant-loop-i l = (length l.block ≡ block_length) × Placed l.initial.block 0 (4 * l.i) (parts (number_bytes l.row) 0 l.i) l.block
