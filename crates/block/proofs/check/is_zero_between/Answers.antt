use Rattle.std.proofs.Common.{rules, ap, ◌∙◌}
use Rattle.std.specs.List.{between}
use Rattle.std.proofs.lemmas.Slice.{between_is}
use Rattle.model_problems.specs.Lists.{all_of}
use Rattle.model_files.specs.Bytes.{is_zero, zero_between}
use Rattle.lists.proofs.Chains.{each}
use Rattle.block.proofs.check.is_zero_between.Goals as goal

pub returns : goal.returns
unfolding zero_between is_zero
returns c =
    let a = c.args in
    each is_zero (between a.i a.e a.b.now) c.all.ensures.ran c.iter.ensures.rest (λ x b q k. search rules) ∙ ap (all_of is_zero) (between_is a.b.now a.i a.e)
