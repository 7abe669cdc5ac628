-- `modify::close` meets its contract. Assumes nothing.
use Rattle.modify.proofs.Views.{close-view}
use Rattle.modify.proofs.close.Goals as goal

pub returns : goal.returns
returns c = close-view c.args.problem c.args.i
