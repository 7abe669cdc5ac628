-- `derivation::rounding::round_into_range` meets its contract. Assumes nothing.
use Rattle.std.proofs.Common.{◌∙◌, inl, rules, arith}
use Rattle.layout.proofs.Rows.{row_plain}
use Rattle.derivation.proofs.Sizes.{divisor-sized}
use Rattle.derivation.proofs.RoundingLaws.{left, above-is, rounded-by}
use Rattle.derivation.proofs.rounding.round_into_range.Goals as goal

pub divided-requires : goal.divided-requires
divided-requires c =
    let h = above-is _ _ _ (row_plain _ _ _) c.excess.ensures c.divisor-h.ensures c.if-h-gt1.true in
    (c.requires.0, omega (arith, h, divisor-sized _ c.requires.1.1))

pub returns-then-h-gt1 : goal.returns-then-h-gt1
returns-then-h-gt1 c =
    let h = above-is _ _ _ (row_plain _ _ _) c.excess.ensures c.divisor-h.ensures c.if-h-gt1.true in
    record { size = search rules; same = inl (c.divided.ensures ∙ rounded-by _ _ (row_plain _ _ _) h) }

pub returns-else-h-gt1 : goal.returns-else-h-gt1
returns-else-h-gt1 c = record { size = search rules; same = left _ _ _ (row_plain _ _ _) c.excess.ensures c.divisor-h.ensures (omega arith) }
