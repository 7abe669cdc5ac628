-- `layout::range::are_in_range` meets its contract. Assumes nothing.
use borrow.Author.Rules.{rules}
use Rattle.model_problems.specs.Constraint.{in_range}
use Rattle.lists.proofs.Chains.{every}
use Rattle.layout.specs.Rows.{row_at}
use Rattle.layout.proofs.range.are_in_range.Goals as goal

pub returns : goal.returns
unfolding row_at
returns c = every c.args.count in_range (row_at c.args.n c.args.rows.now) c.all.ensures.ran (cc) (λ j b q k. search rules)
