-- Tests: T of the Boolean operations, in and out; what a test of order on signed numbers tells; and signed numbers as the machine's bits.
use Rattle.std.specs.Prelude.{◌≡◌, refl, Bool, true, false, not, ◌&&◌, ◌||◌, ◌⊎◌, ℕ, ◌<◌, ◌^◌, T, ltb, ℤ, pos, negsuc, nat_abs, ◌≤ℤ◌, ◌<ℤ◌}
use Rattle.std.proofs.Common.{sym, ◌∙◌, ap, subst, inl, inr, arith, ltb→lt, T_not, Fits, SFits, to_z, of_z, to_z-of_z}
use Rattle.std.proofs.Math.Dec.{not_T}
use Rattle.std.specs.Int.Signed.{le_z, lt_z, le_z_yes, lt_z_yes, lt_z_no, mag, non_neg, yes_non_neg}
use Rattle.std.specs.Int.{w64}
use Rattle.std.proofs.Math.Facts.{and_yes, yes_and, or_yes}
use Rattle.integer.specs.Parts.{lt_in, lt_out, le_in, nlt-out, nle-in, nle-out}
use Rattle.integer.specs.Size.{Within, fits}

-- ---- a test that passed, as an equation, and back: `is_true (le_z a b) t`
pub is_true : (t : Bool) → T t → t ≡ true
is_true true h = refl
is_true false h = absurd h

pub of-true : (t : Bool) → t ≡ true → T t
of-true t e = subst T (sym e) tt

pub is_false : (t : Bool) → T (not t) → t ≡ false
is_false true h = absurd h
is_false false h = refl

pub of-false : (t : Bool) → t ≡ false → T (not t)
of-false t e = subst (λ (u : Bool). T (not u)) (sym e) tt

-- ---- the operations: `and_left a b t` takes the first of two tests that passed together
pub and_in : (a b : Bool) → T a → T b → T (a && b)
and_in = yes_and

pub and_left : (a b : Bool) → T (a && b) → T a
and_left a b t = (and_yes a b t).0

pub and_right : (a b : Bool) → T (a && b) → T b
and_right a b t = (and_yes a b t).1

pub or_left : (a b : Bool) → T a → T (a || b)
or_left true b t = tt
or_left false b t = absurd t

pub or_right : (a b : Bool) → T b → T (a || b)
or_right true b t = tt
or_right false b t = t

pub or-out : (a b : Bool) → T (a || b) → T a ⊎ T b
or-out = or_yes

pub not_in : (t : Bool) → (T t → ⊥) → T (not t)
not_in = not_T

pub not-out : (t : Bool) → T (not t) → T t → ⊥
not-out = T_not

-- either answer: `⊎_elim (λ t. ..) (λ f. ..) (answer (le_z a b))`
pub answer : (t : Bool) → T t ⊎ T (not t)
answer true = inl tt
answer false = inr tt

-- ---- what the equation that a branch leaves tells, `lt_z-true e`, and the answer from the fact, `lt-lt_z h`
pub lt_z-true : {a b : ℤ} → lt_z a b ≡ true → a <ℤ b
lt_z-true {a} {b} e = lt_z_yes (of-true (lt_z a b) e)

pub lt_z-false : {a b : ℤ} → lt_z a b ≡ false → b ≤ℤ a
lt_z-false {a} {b} e = lt_z_no (of-false (lt_z a b) e)

pub le_z-true : {a b : ℤ} → le_z a b ≡ true → a ≤ℤ b
le_z-true {a} {b} e = le_z_yes (of-true (le_z a b) e)

pub le_z-false : {a b : ℤ} → le_z a b ≡ false → b <ℤ a
le_z-false {a} {b} e = lt_z_yes (lt_out b a (nle-in a b (of-false (le_z a b) e)))

pub lt-lt_z : {a b : ℤ} → a <ℤ b → lt_z a b ≡ true
lt-lt_z {a} {b} h = is_true (lt_z a b) h.lt

pub le-lt_z : {a b : ℤ} → b ≤ℤ a → lt_z a b ≡ false
le-lt_z {a} {b} h = is_false (lt_z a b) (nlt-out a b (le_in b a h.le))

pub le-le_z : {a b : ℤ} → a ≤ℤ b → le_z a b ≡ true
le-le_z {a} {b} h = is_true (le_z a b) h.le

pub lt-le_z : {a b : ℤ} → b <ℤ a → le_z a b ≡ false
lt-le_z {a} {b} h = is_false (le_z a b) (nle-out a b (lt_in b a h.lt))

-- ---- the machine's bits
-- a literal: `fits_lit (negsuc 9) tt`
pub fits_lit : (z : ℤ) → T (ltb (mag z) (2 ^ 63)) → SFits w64 z
fits_lit z t = record { sfits = ltb→lt (mag z) (2 ^ 63) t }

-- a number of a known size comes back from its bits: `back (lit< tt) h`
pub back : {z : ℤ} {n : ℕ} → n < 2 ^ 63 → Within n z → to_z w64 (of_z w64 z) ≡ z
back l h = to_z-of_z (fits l h)

-- what `a == b` of two signed numbers tells
pub same : {a b : ℤ} → SFits w64 a → SFits w64 b → of_z w64 a ≡ of_z w64 b → a ≡ b
same f g e = sym (to_z-of_z f) ∙ ap (to_z w64) e ∙ to_z-of_z g

-- what a cast to `u64` asks of a number that is not negative
pub cast-up : {a : ℤ} {n : ℕ} → n < 2 ^ 64 → Within n a → pos 0 ≤ℤ a → T (non_neg a) × Fits w64 (nat_abs a)
cast-up l h p = (yes_non_neg p, record { fits = omega arith })

-- what a division asks of its divisor
pub bits_pos : {a : ℤ} → pos 0 <ℤ a → 0 < of_z w64 a
bits_pos {a = pos n} h = omega (arith, lt_in (pos 0) (pos n) h.lt)
bits_pos {a = negsuc n} h = absurd h.lt
