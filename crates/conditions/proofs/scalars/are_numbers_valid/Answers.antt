-- `conditions::scalars::are_numbers_valid` meets its contract. Assumes nothing.
use borrow.Author.Rules.{rules}
use lib.Dec.{eqb}
use Rattle.lists.proofs.Chains.{every_pair}
use Rattle.state.specs.View.{stored_number}
use Rattle.conditions.specs.Sizes.{number_from}
use Rattle.conditions.proofs.scalars.are_numbers_valid.Goals as goal

pub returns : goal.returns
unfolding stored_number number_from
returns c =
    every_pair c.args.count eqb (stored_number c.args.numbers.now) (number_from c.args.first) c.all.ensures.ran (cc) (λ p b q k. search rules)
