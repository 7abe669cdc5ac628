-- `threshold::range::are_thresholds` meets its contract. Assumes nothing.
use borrow.Author.Rules.{rules}
use mathlib.Core.Path.{ap, ◌∙◌}
use lib.IntN.{pos}
use Rattle.model_problems.specs.Lists.{all_of}
use Rattle.model_problems.specs.Threshold.{is_threshold}
use Rattle.lists.proofs.Tab.{tab-front}
use Rattle.lists.proofs.Chains.{each}
use Rattle.layout.specs.Rows.{number_in, thresholds_of}
use Rattle.threshold.proofs.range.are_thresholds.Goals as goal

pub returns : goal.returns
unfolding thresholds_of number_in
returns c =
    let first = tab-front c.args.thresholds.now (pos 0) c.args.n c.requires in
    each is_threshold _ c.all.ensures.ran c.iter.ensures.rest (λ x b q k. search rules) ∙ ap (all_of is_threshold) first
