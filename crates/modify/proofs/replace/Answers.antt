-- `modify::replace` meets its contract. Assumes nothing.
use mir.Facts.{to_z-of_z}
use Rattle.modify.proofs.Views.{replace-view}
use Rattle.modify.proofs.replace.Goals as goal

pub returns : goal.returns
returns c = replace-view c.args.problem c.store.result c.args.j _ _ (rw (to_z-of_z c.ranges.divisor) at c.store.ensures)
