-- `derivation::rounding::round` meets its contract. Assumes nothing.
use Rattle.std.proofs.Common.{◌∙◌, arith}
use Rattle.integer.specs.Divisor.{above-none}
use Rattle.layout.proofs.Rows.{row_plain}
use Rattle.derivation.proofs.Sizes.{divisor-sized}
use Rattle.derivation.proofs.RoundingLaws.{rounded-same, rounded-by}
use Rattle.derivation.proofs.rounding.round.Goals as goal

pub divided-requires : goal.divided-requires
divided-requires c = (c.requires.0, omega (arith, above-none c.divisor-h.ensures, divisor-sized _ c.requires.1))

pub returns-then-h-gt1 : goal.returns-then-h-gt1
returns-then-h-gt1 c = c.divided.ensures ∙ rounded-by _ _ (row_plain _ _ _) (above-none c.divisor-h.ensures)

pub returns-else-h-gt1 : goal.returns-else-h-gt1
returns-else-h-gt1 c = rounded-same _ _ (row_plain _ _ _) (above-none c.divisor-h.ensures) (omega arith)
