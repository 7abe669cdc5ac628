-- Division rounded down and up: the model's floor_div and ceil_div, at a divisor d of at least 1.
use Rattle.std.specs.Prelude.{◌≡◌, refl, ℕ, zero, suc, ◌+◌, ◌*◌, ◌/◌, ◌≤◌, ◌<◌, ℤ, pos, negsuc, neg_ℤ, nat_abs, ◌+ℤ◌, ◌-ℤ◌, ◌≤ℤ◌, ◌<ℤ◌}
use Rattle.std.proofs.Common.{sym, mod-lt, mul-le-mul_left, div-le_self, arith}
use Rattle.std.proofs.Math.Nat.{div-add-mod, lt_of_mul-lt-mul_left, zero-div}
use Rattle.std.proofs.Math.IntN.{+ℤ_one, -ℤ_one, neg_ℤ-suc_ℤ}
use Rattle.std.specs.Int.Signed.{quot_z}
use Rattle.model_problems.specs.Division.{floor_div, ceil_div, exact_div}
use Rattle.integer.specs.Parts.{up, down, ◌⊑◌, neg-up, neg-down, le_in, lt_in}
use Rattle.integer.specs.Size.{abs_neg}

-- ---- d · floor ≤ z < d · floor + d, for `omega`: `omega (arith, floor-le z d h, floor-lt z d h)`
pub floor-le : (z : ℤ) (d : ℕ) → 0 < d → d * up (floor_div z d) + down z ≤ up z + d * down (floor_div z d)
unfolding floor_div
floor-le (pos a) d h = omega (arith, div-add-mod a d)
floor-le (negsuc a) d h = omega (arith, div-add-mod a d, mod-lt a h)

pub floor-lt : (z : ℤ) (d : ℕ) → 0 < d → up z + d * down (floor_div z d) < down z + d * up (floor_div z d) + d
unfolding floor_div
floor-lt (pos a) d h = omega (arith, div-add-mod a d, mod-lt a h)
floor-lt (negsuc a) d h = omega (arith, div-add-mod a d, mod-lt a h)

-- ---- d · x ≤ z exactly when x ≤ floor (z / d): `floor-max z d x h (omega ..)`, and back `omega (arith, floor-only z d x h k)`
pub floor-max : (z : ℤ) (d : ℕ) (x : ℤ) → 0 < d → d * up x + down z ≤ up z + d * down x → x ⊑ floor_div z d
floor-max z d x h k = less d (up x + down (floor_div z d)) (up (floor_div z d) + down x) (omega (arith, floor-lt z d h))
  where
    less : (d u v : ℕ) → d * u < d * v + d → u ≤ v
    less d u v h = let k : u < suc v = lt_of_mul-lt-mul_left d (omega arith) in omega arith

pub floor-only : (z : ℤ) (d : ℕ) (x : ℤ) → 0 < d → x ⊑ floor_div z d → d * up x + down z ≤ up z + d * down x
floor-only z d x h k = omega (arith, floor-le z d h, mul-le-mul_left d k)

-- ---- z ≤ d · x exactly when ceil (z / d) ≤ x, in the same way
pub ceil-min : (z : ℤ) (d : ℕ) (x : ℤ) → 0 < d → up z + d * down x ≤ d * up x + down z → ceil_div z d ⊑ x
unfolding ceil_div
ceil-min z d x h k =
    let f = floor_div (neg_ℤ z) d in
    omega (arith, neg-up f, neg-down f, neg-up x, neg-down x, floor-max (neg_ℤ z) d (neg_ℤ x) h (simp (neg-up, neg-down) (omega arith)))

pub ceil-only : (z : ℤ) (d : ℕ) (x : ℤ) → 0 < d → ceil_div z d ⊑ x → up z + d * down x ≤ d * up x + down z
unfolding ceil_div
ceil-only z d x h k =
    let f = floor_div (neg_ℤ z) d in
    let l : neg_ℤ x ⊑ f = simp (neg-up, neg-down) (omega (arith, neg-up f, neg-down f)) in
    omega (arith, simp (neg-up, neg-down) at (floor-only (neg_ℤ z) d (neg_ℤ x) h l))

-- ---- rounding takes no number away from zero, whatever the divisor: a bound on nat_abs z is one on `nat_abs (floor_div z d)`
pub floor-size : (z : ℤ) (d : ℕ) → nat_abs (floor_div z d) ≤ nat_abs z
unfolding floor_div
floor-size (pos a) d = div-le_self a d
floor-size (negsuc a) d = omega (arith, div-le_self a d)

pub ceil-size : (z : ℤ) (d : ℕ) → nat_abs (ceil_div z d) ≤ nat_abs z
unfolding ceil_div
ceil-size z d = omega (arith, abs_neg (floor_div (neg_ℤ z) d), floor-size (neg_ℤ z) d, abs_neg z)

pub exact-size : (d : ℕ) (z : ℤ) → nat_abs (exact_div d z) ≤ nat_abs z
unfolding exact_div
exact-size d (pos a) = div-le_self a d
exact-size d (negsuc a) = omega (arith, abs_neg (pos (suc a / d)), div-le_self (suc a) d)

-- ---- as code computes them, by the division toward zero of `/`: `floor-quot z d (lt_z-false e)`, for a branch's `e : lt_z z (pos 0) ≡ false`
pub exact-quot : (d : ℕ) (z : ℤ) → quot_z z (pos d) ≡ exact_div d z
unfolding exact_div
exact-quot d (pos a) = refl
exact-quot d (negsuc a) = refl

pub floor-quot : (z : ℤ) (d : ℕ) → pos 0 ≤ℤ z → quot_z z (pos d) ≡ floor_div z d
unfolding floor_div
floor-quot (pos a) d h = refl
floor-quot (negsuc a) d h = absurd h.le

pub floor-quot-neg : (z : ℤ) (d : ℕ) → z <ℤ pos 0 → quot_z (z +ℤ pos 1) (pos d) -ℤ pos 1 ≡ floor_div z d
unfolding floor_div
floor-quot-neg (pos a) d h = let l : ⊥ = omega (arith, lt_in (pos a) (pos 0) h.lt) in absurd l
floor-quot-neg (negsuc zero) d h = rw (zero-div d)
floor-quot-neg (negsuc (suc a)) d h =
    rw (+ℤ_one (negsuc (suc a)), -ℤ_one (neg_ℤ (pos (suc a / d)))) (sym (neg_ℤ-suc_ℤ (pos (suc a / d))))

pub ceil-quot : (z : ℤ) (d : ℕ) → z ≤ℤ pos 0 → quot_z z (pos d) ≡ ceil_div z d
unfolding ceil_div floor_div
ceil-quot (pos zero) d h = rw (zero-div d)
ceil-quot (pos (suc a)) d h = let l : ⊥ = omega (arith, le_in (pos (suc a)) (pos 0) h.le) in absurd l
ceil-quot (negsuc a) d h = refl

pub ceil-quot-pos : (z : ℤ) (d : ℕ) → pos 0 <ℤ z → quot_z (z -ℤ pos 1) (pos d) +ℤ pos 1 ≡ ceil_div z d
unfolding ceil_div floor_div
ceil-quot-pos (pos zero) d h = let l : ⊥ = omega (arith, lt_in (pos 0) (pos 0) h.lt) in absurd l
ceil-quot-pos (pos (suc a)) d h = rw (-ℤ_one (pos (suc a))) (+ℤ_one (pos (a / d)))
ceil-quot-pos (negsuc a) d h = absurd h.lt
