-- `layout::range::is_in_range` meets its contract: the numbers of the row's part of the array are in range. Assumes nothing.
use native.Mathlib.Omega.{arith}
use mathlib.Core.Path.{◌∙◌}
use borrow.Author.Rules.{rules}
use Rattle.model_problems.specs.Ranges.{within, max_coefficient}
use Rattle.lists.proofs.Chains.{each}
use Rattle.layout.proofs.Tests.{part-in-range}
use Rattle.layout.proofs.range.is_in_range.Goals as goal

pub returns : goal.returns
returns c =
    each (within max_coefficient) _ c.all.ensures.ran c.iter.ensures.rest (λ x b q k. search rules) ∙ part-in-range _ _ _ _ c.requires (omega arith)
