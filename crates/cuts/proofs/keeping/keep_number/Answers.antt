-- `cuts::keeping::keep_number` meets its contract. Assumes nothing.
use Rattle.cuts.proofs.Storing.{number-kept}
use Rattle.cuts.proofs.keeping.keep_number.Goals as goal

pub returns : goal.returns
returns c = number-kept _ _ _ _ c.keep_newest.ensures
