-- `modify::append` meets its contract. Assumes nothing.
use mathlib.Core.Path.{refl}
use mir.Facts.{to_z-of_z}
use Rattle.modify.proofs.Views.{append-view}
use Rattle.modify.proofs.append.Goals as goal

pub returns : goal.returns
returns c =
    let p = c.args.problem in
    append-view p c.store-longer.result p.m _ _ (rw (to_z-of_z c.ranges.divisor) at c.store-longer.ensures) refl
