-- `layout::range::are_divisors_in_range` meets its contract. Assumes nothing.
use native.Mathlib.Omega.{arith}
use borrow.Author.Rules.{rules}
use mathlib.Core.Path.{◌∙◌}
use Rattle.model_problems.specs.Constraint.{is_divisor}
use Rattle.lists.proofs.Chains.{each}
use Rattle.layout.proofs.Ranges.{divisors-range}
use Rattle.layout.proofs.range.are_divisors_in_range.Goals as goal

pub returns : goal.returns
returns c = λ n rows.
    each is_divisor _ c.all.ensures.ran c.iter.ensures.rest (λ x b q k. search rules) ∙ divisors-range n rows _ _ (omega (arith, c.told-divisors))
