-- `layout::copy_row` meets its contract. Assumes nothing.
use native.Mathlib.Omega.{arith}
use Rattle.layout.proofs.Copying.{copied}
use Rattle.layout.proofs.copy_row.Goals as goal

pub returns : goal.returns
returns c = rw c.copy_from_slice.ensures.after (copied _ c.requires.0 _ _ _ c.requires.1 (omega arith))
