-- `opening::first_level` meets its contract. Assumes nothing.
use Rattle.opening.proofs.Opened.{level-opened}
use Rattle.opening.proofs.first_level.Goals as goal

pub returns : goal.returns
returns c = level-opened c.args.p.now
