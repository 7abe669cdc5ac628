-- `level_conditions::nesting::is_box_inside` meets its contract. Assumes nothing.
use borrow.Author.Rules.{rules}
use Rattle.model_walk.specs.Validity.{inside, box_inside}
use Rattle.lists.proofs.Chains.{every_pair}
use Rattle.layout.specs.Rows.{number_in, bounds_at, box_of}
use Rattle.level_conditions.proofs.nesting.is_box_inside.Goals as goal

pub returns : goal.returns
unfolding inside box_inside box_of bounds_at number_in
returns c =
    let l = c.args.l.now in
    let outer = c.args.outer.now in
    every_pair c.args.n inside (bounds_at l.lower l.upper) (bounds_at outer.lower outer.upper) c.all.ensures.ran (cc) (λ i b q k. search rules)
