-- `conditions::status::is_any_open` meets its contract. Assumes nothing.
use borrow.Author.Rules.{rules}
use Rattle.model_problems.specs.Constraint.{is_open}
use Rattle.lists.proofs.Chains.{some}
use Rattle.layout.specs.Rows.{number_in, bounds_at, box_of}
use Rattle.conditions.proofs.status.is_any_open.Goals as goal

pub returns : goal.returns
unfolding is_open box_of bounds_at number_in
returns c =
    let l = c.args.l.now in
    some c.args.n is_open (bounds_at l.lower l.upper) c.any.ensures.ran (cc) (λ i b q k. search rules)
