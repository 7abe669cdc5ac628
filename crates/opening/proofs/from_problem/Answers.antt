-- `opening::from_problem` meets its contract. Assumes nothing.
use Rattle.opening.proofs.Opened.{opened}
use Rattle.opening.proofs.from_problem.Goals as goal

pub returns : goal.returns
returns c = opened c.args.p _ _ _ c.rounded_rows.ensures c.first_level.ensures
