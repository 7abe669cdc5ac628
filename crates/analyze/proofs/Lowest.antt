-- Rounding does not make a constraint false: its lowest value is its value at a point, and rounding keeps the points that meet it.
use Prim.Native.Nat.{ℕ, zero, suc, ◌/◌}
use mathlib.Core.Bool.{false}
use mathlib.Core.List.{List, [], ◌∷◌, map}
use mathlib.Core.Path.{◌≡◌, refl, sym, ap, ap₂, ◌∙◌}
use borrow.Author.Tests.{not-true}
use lib.IntN.{ℤ, pos, negsuc, neg_ℤ, nat_abs, ◌+ℤ◌, ◌*ℤ◌, zero-*ℤ}
use lib.Signed.{lt_z}
use Rattle.model_problems.specs.Division.{ceil_div, exact_div}
use Rattle.model_problems.specs.Constraint.{Constraint, Bounds, Box, modulus, term, terms, activity, falsified_by, falsified, common_divisor, rounded_by, rounded}
use Rattle.model_problems.specs.Points.{Point, dot, value}
use Rattle.integer.specs.Parts.{nlt-in, nlt-out}
use Rattle.integer.specs.Tests.{of-false}
use Rattle.lists.proofs.Bools.{true_of}
use Rattle.validity.proofs.Constraints.{meets-in, meets-out, rounded-meets, rounded-divisor}
use Rattle.derivation.proofs.RoundingLaws.{rounded-by}

-- ---- where the lowest value of coefficient a is, and of each coefficient
bound : ℤ → Bounds → ℤ
bound (pos a) b = b.lower
bound (negsuc a) b = b.upper

lowest : List ℤ → Box → Point
lowest [] box = []
lowest (a ∷ cs) [] = []
lowest (a ∷ cs) (b ∷ box) = bound a b ∷ lowest cs box

-- ---- the quotient of a has a's sign, or is 0
negated : (q : ℕ) (b : Bounds) → term (neg_ℤ (pos q)) b ≡ neg_ℤ (pos q) *ℤ b.upper
unfolding term
negated zero b = zero-*ℤ b.lower ∙ sym (zero-*ℤ b.upper)
negated (suc q) b = refl

term-exact : (h : ℕ) (a : ℤ) (b : Bounds) → term (exact_div h a) b ≡ exact_div h a *ℤ bound a b
unfolding term exact_div bound
term-exact h (pos a) b = refl
term-exact h (negsuc a) b = negated (suc a / h) b

terms-exact : (h : ℕ) (cs : List ℤ) (box : Box) → terms (map (exact_div h) cs) box ≡ dot (map (exact_div h) cs) (lowest cs box)
unfolding terms dot lowest
terms-exact h [] box = refl
terms-exact h (a ∷ cs) [] = refl
terms-exact h (a ∷ cs) (b ∷ box) = ap₂ ◌+ℤ◌ (term-exact h a b) (terms-exact h cs box)

terms-are : (cs : List ℤ) (box : Box) → terms cs box ≡ dot cs (lowest cs box)
unfolding terms dot lowest term bound
terms-are [] box = refl
terms-are (a ∷ cs) [] = refl
terms-are (pos a ∷ cs) (b ∷ box) = ap (λ (z : ℤ). pos a *ℤ b.lower +ℤ z) (terms-are cs box)
terms-are (negsuc a ∷ cs) (b ∷ box) = ap (λ (z : ℤ). negsuc a *ℤ b.upper +ℤ z) (terms-are cs box)

by-lowest : (h : ℕ) (k : Constraint) (box : Box) → activity (rounded_by h k) box ≡ value (rounded_by h k) (lowest k.coefficients box)
unfolding activity value rounded_by
by-lowest zero k box = ap (λ (z : ℤ). k.constant +ℤ z) (terms-are k.coefficients box)
by-lowest (suc h) k box = ap (λ (z : ℤ). ceil_div k.constant (suc h) +ℤ z) (terms-exact (suc h) k.coefficients box)

-- an inequality is false exactly when its lowest value is above 0
lowest-test : (k : Constraint) (box : Box) → k.divisor ≡ pos 0 → falsified k box ≡ lt_z (pos 0) (activity k box)
unfolding falsified falsified_by modulus
lowest-test k box q = rw q

pub rounded-holds : (k : Constraint) (box : Box) → k.divisor ≡ pos 0 → falsified k box ≡ false → falsified (rounded k) box ≡ false
unfolding modulus rounded_by
rounded-holds k box q e =
    let x = lowest k.coefficients box in
    let h = common_divisor k.coefficients in
    let r = rounded k in
    let plain : r.divisor ≡ pos 0 = rounded-divisor k ∙ q in
    let v = by-lowest 0 k box in
    let w : activity r box ≡ value r x = rw (rounded-by k h q refl) at (by-lowest h k box) in
    let m = meets-out x k (ap nat_abs q) (rw v at (nlt-in (pos 0) (activity k box) (of-false _ (sym (lowest-test k box q) ∙ e)))) in
    let n = meets-in x r (ap nat_abs plain) ((rounded-meets k x).1 m) in
    lowest-test r box plain ∙ not-true _ (true_of _ (nlt-out (pos 0) (activity r box) (rw w n)))
