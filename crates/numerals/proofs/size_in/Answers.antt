use Rattle.std.proofs.Common.{rules, arith}
use Rattle.numerals.proofs.Reading.{none, no_digit, large, next, all, digit-is, digit_small, digit-none}
use Rattle.numerals.proofs.size_in.Goals as goal

pub returns-then-is_empty : goal.returns-then-is_empty
returns-then-is_empty c = search (rules, none)

pub returns-then-not-is_ascii_digit : goal.returns-then-not-is_ascii_digit
returns-then-not-is_ascii_digit c = search (rules, no_digit, digit-none)

pub returns-in_err-shifted : goal.returns-in_err-shifted
returns-in_err-shifted c = rw c.from_residual.ensures (large _ _ _ c.loop-byte.invariant.1 (omega arith) _ (omega (arith, c.in_err-shifted.ensures)))

pub returns-in_err-value : goal.returns-in_err-value
returns-in_err-value c =
    let k = digit-is _ c.if-not-is_ascii_digit.ensures.cases in
    rw c.from_residual-in_err-value.ensures (large _ _ _ c.loop-byte.invariant.1 (omega arith) _ (omega (arith, k, c.in_err-value.ensures)))

pub loop-byte-preserved : goal.loop-byte-preserved
loop-byte-preserved c =
    let k = digit-is _ c.if-not-is_ascii_digit.ensures.cases in
    (omega arith, next _ _ _ c.loop-byte.invariant.1 (omega arith) _ (digit_small _ c.if-not-is_ascii_digit.ensures.cases) (omega (arith, k)))

pub returns : goal.returns
returns c = all _ _ _ _ c.loop-byte.invariant.1 (omega arith) c.if-is_empty.ensures (omega arith)
