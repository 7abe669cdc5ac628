use Rattle.std.proofs.Common.{◌≡◌, ◌+◌, ◌*◌, ◌≤◌, length}
use Rattle.model_files.specs.Bytes.{block_length}
use Rattle.model_files.specs.File.{block_of}
use Rattle.model_problems.specs.Lists.{parts}
use Rattle.block.specs.Placed.{Placed}
use Rattle.problem.specs.View.{problem_of}
use Rattle.file_blocks.proofs.writer.write_blocks.Given as goal

-- The blocks of the constraints before j stand after the head, and the buffer has its length.
abbrev pub invariant-loop-j : goal.invariant-loop-j
invariant-loop-j l =
    (block_length * (l.problem.m + 1) ≤ length l.buffer) × (length l.buffer ≡ length l.initial.buffer) × Placed l.initial.buffer block_length (block_length * (l.j + 1)) (parts (block_of (problem_of l.problem)) 1 l.j) l.buffer
