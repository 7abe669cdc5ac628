-- Integers that differ by a multiple of d, and the model's test of divisibility.
use Rattle.std.specs.Prelude.{◌≡◌, ℕ, ◌/◌, ◌%◌, T, ℤ, pos, neg_ℤ, nat_abs, ◌+ℤ◌, ◌*ℤ◌}
use Rattle.std.proofs.Common.{sym, ap, ap₂, ◌∙◌, arith, eqb→eq}
use Rattle.std.specs.Int.{◌∣◌}
use Rattle.std.proofs.Math.Nat.{dvd-mul_right, dvd_of_mod-eq-zero, mod-eq-zero_of_dvd, mul-div_cancel'}
use Rattle.std.proofs.Math.IntN.{+ℤ_idr, +ℤ_assoc, *ℤ-zero}
use Rattle.model_problems.specs.Division.{exact_div, divides}
use Rattle.integer.specs.Ring.{ring, *ℤ-assoc}
use Rattle.integer.specs.Expression.{rep, var, eq}
use Rattle.integer.specs.Size.{abs-mul}
use Rattle.integer.specs.Divisor.{exact}

-- ---- the test as a fact, and back
pub divides-in : (d : ℕ) (z : ℤ) → T (divides d z) → d ∣ nat_abs z
unfolding divides
divides-in d z t = dvd_of_mod-eq-zero d (eqb→eq (nat_abs z % d) 0 t)

pub divides-out : (d : ℕ) (z : ℤ) → d ∣ nat_abs z → T (divides d z)
unfolding divides
divides-out d z h = rw (mod-eq-zero_of_dvd d h) tt

-- ---- a is b and a multiple of d
pub record Congruent (d : ℕ) (a b : ℤ) : Type 0 where
  pub times : ℤ
  pub is : a ≡ b +ℤ pos d *ℤ times

pub congruent-refl : (d : ℕ) (a : ℤ) → Congruent d a a
congruent-refl d a = record { times = pos 0; is = sym (ap (λ (z : ℤ). a +ℤ z) (*ℤ-zero (pos d)) ∙ +ℤ_idr a) }

pub congruent-sym : (d : ℕ) (a b : ℤ) → Congruent d a b → Congruent d b a
congruent-sym d a b h = record { times = neg_ℤ h.times; is = back b h.times ∙ ap (λ (z : ℤ). z +ℤ pos d *ℤ neg_ℤ h.times) (sym h.is) }
  where
    back : (b t : ℤ) → b ≡ (b +ℤ pos d *ℤ t) +ℤ pos d *ℤ neg_ℤ t
    back b t = let x = var b in let y = var t in eq (search rep) (search rep) (omega arith)

-- a number before both, and a multiple before one
pub congruent-add : (d : ℕ) (c a b : ℤ) → Congruent d a b → Congruent d (c +ℤ a) (c +ℤ b)
congruent-add d c a b h = record { times = h.times; is = ap (λ (z : ℤ). c +ℤ z) h.is ∙ sym (+ℤ_assoc c b (pos d *ℤ h.times)) }

pub congruent-more : (d : ℕ) (m a b : ℤ) → d ∣ nat_abs m → Congruent d a b → Congruent d (m +ℤ a) b
congruent-more d m a b e h = record { times = exact_div d m +ℤ h.times; is = ap₂ ◌+ℤ◌ (exact d m e) h.is ∙ simp ring }

-- modulo e, and so modulo what divides e
pub congruent-less : (d e : ℕ) (a b : ℤ) → d ∣ e → Congruent e a b → Congruent d a b
congruent-less d e a b k h =
    let t = h.times in
    record {
      times = pos (e / d) *ℤ t;
      is = h.is ∙ ap (λ (n : ℕ). b +ℤ pos n *ℤ t) (sym (mul-div_cancel' d k)) ∙ ap (λ (z : ℤ). b +ℤ z) (*ℤ-assoc (pos d) (pos (e / d)) t);
    }

-- d divides both or neither
pub congruent-divides : (d : ℕ) (a b : ℤ) → Congruent d a b → d ∣ nat_abs b → d ∣ nat_abs a
congruent-divides d a b h k =
    let u = exact_div d b +ℤ h.times in
    let e : a ≡ pos d *ℤ u = h.is ∙ ap (λ (z : ℤ). z +ℤ pos d *ℤ h.times) (exact d b k) ∙ simp ring in
    rw (e, abs-mul (pos d) u) (dvd-mul_right d (nat_abs u))
