-- An integer's distance from zero, and bounds on it.
use Rattle.std.specs.Prelude.{◌≡◌, refl, ◌&&◌, ℕ, zero, suc, ◌+◌, ◌*◌, ◌≤◌, ◌<◌, ◌^◌, T, ℤ, pos, negsuc, neg_ℤ, nat_abs, ◌+ℤ◌, ◌*ℤ◌, ◌≤ℤ◌}
use Rattle.std.proofs.Common.{arith, mul-le-mul, SFits}
use Rattle.std.specs.Int.Signed.{le_z, mag}
use Rattle.std.specs.Int.{w64}
use Rattle.std.proofs.Math.Facts.{and_yes, yes_and}
use Rattle.integer.specs.Parts.{add_parts, neg-up, neg-down, abs-parts, one-part, le_in, le_out}

-- ---- the distance of a negation, a product, a sum: facts for `omega`
pub abs_neg : (z : ℤ) → nat_abs (neg_ℤ z) ≡ nat_abs z
abs_neg (pos zero) = refl
abs_neg (pos (suc n)) = refl
abs_neg (negsuc n) = refl

pub abs-mul : (a b : ℤ) → nat_abs (a *ℤ b) ≡ nat_abs a * nat_abs b
abs-mul (pos a) (pos b) = refl
abs-mul (pos a) (negsuc b) = abs_neg (pos (a * suc b))
abs-mul (negsuc a) (pos b) = abs_neg (pos (suc a * b))
abs-mul (negsuc a) (negsuc b) = refl

pub abs-add : (a b : ℤ) → nat_abs (a +ℤ b) ≤ nat_abs a + nat_abs b
abs-add a b = omega (arith, add_parts a b, abs-parts a, abs-parts b, abs-parts (a +ℤ b), one-part (a +ℤ b))

-- the kit's `mag`, by which a signed width's range is stated
pub mag-abs : (z : ℤ) → mag z ≤ nat_abs z
mag-abs (pos n) = omega arith
mag-abs (negsuc n) = omega arith

-- ---- z is at most n away from zero. The numbers of a `Within n z` are found from a fact in hand: `fits (lit< tt) (add-within h k)`
pub record Within (n : ℕ) (z : ℤ) : Type 0 where
  pub within : nat_abs z ≤ n

-- a literal's size computes: `size (negsuc 4)` is a `Within 5 (negsuc 4)`
pub size : (z : ℤ) → Within (nat_abs z) z
size z = record { within = omega arith }

pub weaken : {z : ℤ} {m n : ℕ} → m ≤ n → Within m z → Within n z
weaken l h = record { within = omega arith }

pub add-within : {a b : ℤ} {m n : ℕ} → Within m a → Within n b → Within (m + n) (a +ℤ b)
add-within {a} {b} h k = record { within = omega (arith, abs-add a b) }

pub mul-within : {a b : ℤ} {m n : ℕ} → Within m a → Within n b → Within (m * n) (a *ℤ b)
mul-within {a} {b} h k = record { within = rw (abs-mul a b) (mul-le-mul h.within k.within) }

pub neg-within : {a : ℤ} {m : ℕ} → Within m a → Within m (neg_ℤ a)
neg-within {a} h = record { within = omega (arith, abs_neg a) }

-- no overflow: an `i64` holds the number
pub fits : {z : ℤ} {n : ℕ} → n < 2 ^ 63 → Within n z → SFits w64 z
fits {z} l h = record { sfits = omega (arith, mag-abs z) }

-- the same as two orders
pub within : {z : ℤ} {k : ℕ} → z ≤ℤ pos k → neg_ℤ (pos k) ≤ℤ z → Within k z
within {z} {k} h l =
    record {
      within =
          omega (arith, le_in z (pos k) h.le, le_in (neg_ℤ (pos k)) z l.le, neg-up (pos k), neg-down (pos k), abs-parts z, one-part z);
    }

pub below : {z : ℤ} {k : ℕ} → Within k z → z ≤ℤ pos k
below {z} {k} h = record { le = le_out z (pos k) (omega (arith, abs-parts z)) }

pub above : {z : ℤ} {k : ℕ} → Within k z → neg_ℤ (pos k) ≤ℤ z
above {z} {k} h = record { le = le_out (neg_ℤ (pos k)) z (omega (arith, abs-parts z, neg-up (pos k), neg-down (pos k))) }

-- and as one test: `between_in (2 ^ 30) z t` reads a test that passed
pub between_in : (b : ℕ) (z : ℤ) → T (le_z (neg_ℤ (pos b)) z && le_z z (pos b)) → nat_abs z ≤ b
between_in b z t =
    let both = and_yes (le_z (neg_ℤ (pos b)) z) (le_z z (pos b)) t in
    (within {z = z} {k = b} (record { le = both.1 }) (record { le = both.0 })).within

pub between-out : (b : ℕ) (z : ℤ) → nat_abs z ≤ b → T (le_z (neg_ℤ (pos b)) z && le_z z (pos b))
between-out b z h =
    let w : Within b z = record { within = h } in
    yes_and (le_z (neg_ℤ (pos b)) z) (le_z z (pos b)) (above w).le (below w).le
