-- `level_conditions::nesting::are_reasons_valid` meets its contract. Assumes nothing.
use borrow.Author.Rules.{rules}
use Rattle.model_walk.specs.Validity.{reasons_valid}
use Rattle.lists.proofs.Chains.{every}
use Rattle.state.specs.View.{reasons_in}
use Rattle.level_conditions.proofs.nesting.are_reasons_valid.Goals as goal

pub returns : goal.returns
unfolding reasons_valid reasons_in
returns c =
    let a = c.args in
    every a.n (reasons_valid a.last) (reasons_in a.below.now a.above.now) c.all.ensures.ran (cc) (λ i b q k. search rules)
