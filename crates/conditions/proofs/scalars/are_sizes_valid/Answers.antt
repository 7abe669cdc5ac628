-- `conditions::scalars::are_sizes_valid` meets its contract. Assumes nothing.
use borrow.Author.Rules.{rules}
use Rattle.conditions.proofs.Views.{sizes-view}
use Rattle.conditions.proofs.scalars.are_sizes_valid.Goals as goal

pub returns-then-s-2 : goal.returns-then-s-2
returns-then-s-2 c = let tests = sizes-view c.args.s.now in search rules

pub returns-else-s-2 : goal.returns-else-s-2
returns-else-s-2 c = let tests = sizes-view c.args.s.now in search rules
