use native.Mathlib.Omega.{arith}
use Rattle.std.proofs.Common.{◌∙◌}
use Rattle.numerals.proofs.Reading.{from-the-first, minus-none, minus-number, plus-none, plus-number}
use Rattle.numerals.proofs.number_in.Goals as goal

pub returns-in_err-size_in-in-Some : goal.returns-in_err-size_in-in-Some
returns-in_err-size_in-in-Some c =
    let h = c.in-Some.ensures.cases in
    c.from_residual.ensures ∙ minus-none _ _ h.0 h.1 c.in_err-size_in-in-Some.ensures

pub returns-in_err-size_in-in-None : goal.returns-in_err-size_in-in-None
returns-in_err-size_in-in-None c =
    c.from_residual-in_err-size_in-in-None.ensures ∙ plus-none _ _ c.in-None.ensures.cases (grind (arith, from-the-first)) c.in_err-size_in-in-None.ensures

pub returns-in_ok-size_in-in-Some : goal.returns-in_ok-size_in-in-Some
returns-in_ok-size_in-in-Some c =
    let h = c.in-Some.ensures.cases in
    minus-number _ _ h.0 h.1 _ _ c.in_ok-size_in-in-Some.ensures c.checked_sub_unsigned.ensures

pub returns-in_ok-size_in-in-None : goal.returns-in_ok-size_in-in-None
returns-in_ok-size_in-in-None c =
    c.ok.ensures.value ∙ plus-number _ _ c.in-None.ensures.cases (grind (arith, from-the-first)) _ _ c.in_ok-size_in-in-None.ensures c.try_from.ensures
