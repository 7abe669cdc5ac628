-- `validate::are_cuts_numbered` meets its contract. Assumes nothing.
use borrow.Author.Rules.{rules}
use Rattle.conditions.proofs.Views.{numbers-view}
use Rattle.validate.proofs.are_cuts_numbered.Goals as goal

pub are_numbers_valid-requires : goal.are_numbers_valid-requires
are_numbers_valid-requires c = search rules

pub returns : goal.returns
returns c = let v = numbers-view c.args.s.now in search rules
