-- `derivation::rounding::divided` meets its contract: the constant and the first i coefficients are divided. Assumes nothing.
use Rattle.std.proofs.Common.{◌≡◌, ap, ◌∙◌, ◌+◌, ℤ, w64, to_z-of_z, rules, arith}
use borrow.Author.Rules.{sfits_of}
use Rattle.model_problems.specs.Division.{ceil_div, exact_div}
use Rattle.layout.proofs.Elements.{number_read, cell-read}
use Rattle.layout.proofs.Filled.{fill-constant, fill-coefficient}
use Rattle.derivation.proofs.RoundingLaws.{divided-row}
use Rattle.derivation.proofs.rounding.divided.Goals as goal

pub loop-i-init : goal.loop-i-init
loop-i-init c =
    let a = c.args in
    fill-constant a.c _ (search rules)
    (to_z-of_z {w = w64} (sfits_of c.ceil_div.type_inv) ∙ c.ceil_div.ensures.0 ∙ ap (λ (z : ℤ). ceil_div z a.h) (number_read a.c 0 (omega arith)))

pub loop-i-preserved : goal.loop-i-preserved
loop-i-preserved c =
    let a = c.args in
    let i = c.loop-i.i in
    fill-coefficient _ (omega arith) c.loop-i.invariant
    (to_z-of_z {w = w64} (sfits_of c.exact_div.type_inv) ∙ c.exact_div.ensures.0 ∙ ap (exact_div a.h) (cell-read a.c 0 i (i + 1) (omega arith) (omega arith)))

pub returns : goal.returns
returns c =
    let a = c.args in
    let e : c.loop-i.i ≡ a.n = omega arith in
    divided-row a.n a.h a.c c.loop-i.r c.requires.1.0 (rw e at c.loop-i.invariant)
