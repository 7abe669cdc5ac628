-- The model's greatest common divisor, and division by a divisor.
use Rattle.std.specs.Prelude.{◌⊎◌, ◌≡◌, refl, ℕ, zero, suc, ◌/◌, ◌%◌, ◌≤◌, ◌<◌, ℤ, pos, negsuc, neg_ℤ, nat_abs, ◌*ℤ◌}
use Rattle.std.proofs.Common.{⊎_elim, sym, ap, mod-lt, zero-lt-suc, arith}
use Rattle.std.specs.Int.{◌∣◌}
use Rattle.std.proofs.Math.Nat.{mul-div_cancel', dvd_refl, dvd-zero, dvd-mod_iff, dvd_antisymm, le_of_dvd, pos_of_dvd_of_pos}
use Rattle.model_problems.specs.Division.{exact_div, gcd_with, gcd}
use Rattle.integer.specs.Parts.{neg-up, neg-down, mul-parts, eq-out}

-- ---- it divides both: `gcd-left a b`, `gcd-right a b`
with-divides : (f a b : ℕ) → b < f → (gcd_with f a b ∣ a) × (gcd_with f a b ∣ b)
unfolding gcd_with
with-divides zero a b h = let z : ⊥ = omega arith in absurd z
with-divides (suc f) a zero h = (dvd_refl a, dvd-zero a)
with-divides (suc f) a (suc b) h =
    let r = with-divides f (suc b) (a % suc b) (omega (arith, mod-lt a (zero-lt-suc b))) in
    ((dvd-mod_iff (gcd_with f (suc b) (a % suc b)) r.0).0 r.1, r.0)

pub gcd-left : (a b : ℕ) → gcd a b ∣ a
unfolding gcd
gcd-left a b = (with-divides (suc b) a b (omega arith)).0

pub gcd-right : (a b : ℕ) → gcd a b ∣ b
unfolding gcd
gcd-right a b = (with-divides (suc b) a b (omega arith)).1

-- ---- and every common divisor k divides it: `gcd-greatest a b k h l`
with-greatest : (f a b k : ℕ) → k ∣ a → k ∣ b → k ∣ gcd_with f a b
unfolding gcd_with
with-greatest zero a b k h l = h
with-greatest (suc f) a zero k h l = h
with-greatest (suc f) a (suc b) k h l = with-greatest f (suc b) (a % suc b) k l ((dvd-mod_iff k l).1 h)

pub gcd-greatest : (a b k : ℕ) → k ∣ a → k ∣ b → k ∣ gcd a b
unfolding gcd
gcd-greatest a b k h l = with-greatest (suc b) a b k h l

-- ---- Euclid's steps, as a loop takes them: `rw (gcd-step a b h)` where b is not zero, and `rw (gcd-zero a)` at the end
-- enough fuel is enough
fuel : (f g a b : ℕ) → b < f → b < g → gcd_with f a b ≡ gcd_with g a b
unfolding gcd_with
fuel zero g a b h k = let z : ⊥ = omega arith in absurd z
fuel (suc f) zero a b h k = let z : ⊥ = omega arith in absurd z
fuel (suc f) (suc g) a zero h k = refl
fuel (suc f) (suc g) a (suc b) h k =
    let l = mod-lt a (zero-lt-suc b) in fuel f g (suc b) (a % suc b) (omega arith) (omega arith)

pub gcd-zero : (a : ℕ) → gcd a 0 ≡ a
unfolding gcd gcd_with
gcd-zero a = refl

pub gcd-step : (a b : ℕ) → 0 < b → gcd a b ≡ gcd b (a % b)
unfolding gcd gcd_with
gcd-step a zero h = let z : ⊥ = omega arith in absurd z
gcd-step a (suc b) h =
    let l = mod-lt a (zero-lt-suc b) in fuel (suc b) (suc (a % suc b)) (suc b) (a % suc b) (omega arith) (omega arith)

-- 0 leaves the other number
pub gcd-none : (b : ℕ) → gcd 0 b ≡ b
gcd-none b = dvd_antisymm (gcd-right 0 b) (gcd-greatest 0 b b (dvd-zero b) (dvd_refl b))

-- ---- bounds: what bounds both bounds it; it is not zero where the first is not (nor where the second is not: `pos_of_dvd_of_pos (gcd-right a b) h`)
pub gcd-most : (a b m : ℕ) → a ≤ m → b ≤ m → gcd a b ≤ m
gcd-most zero zero m h k = rw (gcd-zero zero) h
gcd-most zero (suc b) m h k = omega (arith, le_of_dvd (zero-lt-suc b) (gcd-right zero (suc b)))
gcd-most (suc a) b m h k = omega (arith, le_of_dvd (zero-lt-suc a) (gcd-left (suc a) b))

pub gcd-pos : (a b : ℕ) → 0 < a → 0 < gcd a b
gcd-pos a b h = pos_of_dvd_of_pos (gcd-left a b) h

-- ---- r is the divisor d, or 1 where d is at most `least` and not 0
abbrev pub Above : ℕ → ℕ → ℕ → Type 0
Above least d r = (r ≡ d) ⊎ ((r ≡ 1) × ((0 < d) × (d ≤ least)))

pub above-none : {d r : ℕ} → Above 0 d r → r ≡ d
above-none h = ⊎_elim (λ e. e) (λ s. absurd (omega arith)) h

-- a number that is at most `least` has no larger divisor
pub gcd-small : (a b least : ℕ) → 0 < b → b ≤ least → (0 < gcd a b) × (gcd a b ≤ least)
gcd-small a b least p h = (pos_of_dvd_of_pos (gcd-right a b) p, omega (arith, le_of_dvd p (gcd-right a b)))

-- ---- division by a divisor gives the number back: `exact h c (gcd-left (nat_abs c) n)`
pub exact : (h : ℕ) (c : ℤ) → h ∣ nat_abs c → c ≡ pos h *ℤ exact_div h c
unfolding exact_div
exact h (pos a) d = ap pos (sym (mul-div_cancel' h d))
exact h (negsuc a) d =
    let q = pos (suc a / h) in
    eq-out _ _ (omega (arith, mul-div_cancel' h d, simp (neg-up, neg-down) at (mul-parts (pos h) (neg_ℤ q))))
