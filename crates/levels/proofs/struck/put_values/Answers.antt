-- `levels::struck::put_values` meets its contract. Assumes nothing.
use borrow.Author.Rules.{rules}
use Rattle.levels.proofs.Copying.{copied-list}
use Rattle.levels.proofs.struck.put_values.Goals as goal

pub returns : goal.returns
returns c = copied-list _ _ _ _ _ (search rules) c.copy_to.ensures
