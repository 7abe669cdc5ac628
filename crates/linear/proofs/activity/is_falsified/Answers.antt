-- `linear::activity::is_falsified` meets its contract. Assumes nothing.
use mathlib.Core.Path.{ap}
use lib.Dec.{lit<}
use lib.IntN.{pos}
use lib.Signed.{lt_z}
use mir.Facts.{to_z-of_z}
use Rattle.model_problems.specs.Constraint.{modulus, falsified_by, falsified}
use Rattle.layout.specs.Rows.{constraint_at}
use Rattle.integer.specs.Size.{fits}
use Rattle.linear.proofs.activity.is_falsified.Goals as goal

pub returns : goal.returns
unfolding falsified falsified_by modulus constraint_at
returns c = rw (to_z-of_z (fits (lit< tt) c.min_activity.ensures.within)) (ap (lt_z (pos 0)) c.min_activity.ensures.value)
