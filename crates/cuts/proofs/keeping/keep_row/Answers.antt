-- `cuts::keeping::keep_row` meets its contract. Assumes nothing.
use native.Mathlib.Omega.{arith}
use Rattle.cuts.proofs.Storing.{row-kept}
use Rattle.cuts.proofs.keeping.keep_row.Goals as goal

pub returns : goal.returns
returns c = row-kept _ _ _ _ _ _ (omega arith) (omega arith) c.requires.1.1 c.keep_newest.ensures
