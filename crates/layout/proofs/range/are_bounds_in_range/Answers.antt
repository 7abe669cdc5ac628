-- `layout::range::are_bounds_in_range` meets its contract. Assumes nothing.
use borrow.Author.Rules.{rules}
use Rattle.model_problems.specs.Problem.{bounds_in_range}
use Rattle.lists.proofs.Chains.{every}
use Rattle.layout.specs.Rows.{number_in, bounds_at, box_of}
use Rattle.layout.proofs.range.are_bounds_in_range.Goals as goal

pub returns : goal.returns
unfolding box_of bounds_at number_in
returns c = every c.args.n bounds_in_range (bounds_at c.args.lower.now c.args.upper.now) c.all.ensures.ran (cc) (λ i b q k. search rules)
