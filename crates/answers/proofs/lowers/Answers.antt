-- `answers::lowers` meets its contract. Assumes nothing.
use borrow.Author.Rules.{rules}
use Rattle.fields.specs.Fields.{zeros}
use Rattle.answers.proofs.Answering.{copied}
use Rattle.answers.proofs.lowers.Goals as goal

pub returns : goal.returns
unfolding zeros
returns c = copied _ c.args.l.lower _ (search rules) c.copy_from_slice.ensures.after
