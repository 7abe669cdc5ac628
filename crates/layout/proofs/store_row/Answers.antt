-- `layout::store_row` meets its contract. Assumes nothing.
use native.Mathlib.Omega.{arith}
use Rattle.layout.proofs.Placing.{placed_part}
use Rattle.layout.proofs.store_row.Goals as goal

pub returns : goal.returns
returns c = placed_part _ _ _ _ _ (omega arith) c.told-row c.requires _ c.copy_from_slice.ensures.after
