-- `threshold::range::are_outside` meets its contract. Assumes nothing.
use borrow.Author.Rules.{rules}
use Rattle.model_problems.specs.Threshold.{outside_gap}
use Rattle.lists.proofs.Chains.{every_pair}
use Rattle.layout.specs.Rows.{number_in, bounds_at, box_of, thresholds_of}
use Rattle.threshold.proofs.range.are_outside.Goals as goal

pub returns : goal.returns
unfolding thresholds_of box_of bounds_at number_in
returns c =
    let a = c.args in
    every_pair a.n outside_gap (number_in a.thresholds.now) (bounds_at a.lower.now a.upper.now) c.all.ensures.ran (cc) (λ i b q k. search rules)
