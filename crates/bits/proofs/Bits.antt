-- Bits of masks: how a mask is built, from the highest variable down, and how it is walked.
use Prim.Native.Nat.{ℕ, zero, suc, ◌+◌, ◌-◌, ◌*◌, ◌/◌, ◌%◌, ◌^◌, ◌≤◌, ◌<◌, min}
use native.Mathlib.Nat.{div-one, div-div-eq-div-mul, pow-suc, pow-succ', div-eq_of_lt, lt_of_lt_of_le, eq-or-lt_of_le}
use native.Mathlib.Omega.{arith}
use mathlib.Core.Bool.{Bool, true, false}
use mir.Val.{bool_byte}
use mathlib.Core.Logic.{◌⊎◌, inl, inr, ⊎_elim}
use mathlib.Core.Path.{◌≡◌, refl, sym, ap, subst, ◌∙◌}
use lib.Bits.{bit_and, and_step, and_self, and_shr, and_le_r}
use lib.Count.{count_trailing_zeros, under}
use lib.Dec.{lit<}
use lib.Pow.{pow_mono}
use Rattle.lists.proofs.Bools.{lt-or-le}
use Rattle.bits.specs.Masks.{bit}
use Rattle.bits.specs.Walk.{First, Rest}

-- ---- the lowest bit, and the others
bit-zero : (m : ℕ) → bit m 0 ≡ m % 2
unfolding bit
bit-zero m = rw div-one

bit-suc : (m i : ℕ) → bit m (suc i) ≡ bit (m / 2) i
unfolding bit
bit-suc m i = ap (λ (x : ℕ). m / x % 2) (pow-succ' 2 i) ∙ ap (λ (x : ℕ). x % 2) (sym (div-div-eq-div-mul m 2 (2 ^ i)))

-- ---- the bits of 2 · q + d, for a digit d
module _ (q d : ℕ) (h : d < 2) where
  bit-new : bit (2 * q + d) 0 ≡ d
  bit-new = bit-zero (2 * q + d) ∙ omega arith

  bit-old : (i : ℕ) → bit (2 * q + d) (suc i) ≡ bit q i
  bit-old i = let e : (2 * q + d) / 2 ≡ q = omega arith in bit-suc (2 * q + d) i ∙ ap (λ (x : ℕ). bit x i) e

-- no bit is set past a mask's size
pub bit_past : (m i k : ℕ) → m < 2 ^ k → k ≤ i → bit m i ≡ 0
unfolding bit
bit_past m i k h l = rw (div-eq_of_lt (lt_of_lt_of_le h (pow_mono l)))

-- ---- a mask of the variables from i on: each that it leaves out has a property P
pub record Covers (P : ℕ → Type 0) (n i mask : ℕ) : Type 0 where
  pub few : mask < 2 ^ (n - i)
  pub rest : (k : ℕ) → i ≤ k → k < n → bit mask (k - i) ≡ 0 → P k

-- one number more, with the digit that its test gives
module _ {P : ℕ → Type 0} {n i mask : ℕ} (c : Covers P n i mask) where
  covers_digit : (d : ℕ) → d < 2 → (d ≡ 0 → P (i - 1)) → 0 < i → i ≤ n → Covers P n (i - 1) (2 * mask + d)
  covers_digit d h p l m = record { few = few; rest = rest }
    where
      few : 2 * mask + d < 2 ^ (n - (i - 1))
      few =
          let e : n - (i - 1) ≡ suc (n - i) = omega arith in
          rw (e, pow-suc) (omega (arith, c.few))

      rest : (k : ℕ) → i - 1 ≤ k → k < n → bit (2 * mask + d) (k - (i - 1)) ≡ 0 → P k
      rest k a b z =
          ⊎_elim
          (λ (q : i - 1 ≡ k).
          let e : k - (i - 1) ≡ 0 = omega arith in
          subst P q (p (sym (bit-new mask d h) ∙ ap (bit (2 * mask + d)) (sym e) ∙ z)))
          (λ (q : i - 1 < k).
          let e : k - (i - 1) ≡ suc (k - i) = omega arith in
          c.rest k (omega arith) b (sym (bit-old mask d h (k - i)) ∙ ap (bit (2 * mask + d)) (sym e) ∙ z))
          (eq-or-lt_of_le a)

  pub covers_more : {t : Bool} → (t ≡ false → P (i - 1)) → 0 < i → i ≤ n → Covers P n (i - 1) (2 * mask + bool_byte t)
  covers_more {t = true} p l m = covers_digit 1 (lit< tt) (λ e. absurd (omega arith)) l m
  covers_more {t = false} p l m = covers_digit 0 (lit< tt) (λ e. p refl) l m

-- ---- the walk
-- a bit that is set lies within a mask's size
inside : (m t k : ℕ) → bit m t ≡ 1 → m < 2 ^ k → t < k
inside m t k e h =
    ⊎_elim (λ (l : t < k). l) (λ (l : k ≤ t). absurd (omega (arith, bit_past m t k h l))) (lt-or-le t k)

-- the trailing zeros of a number of d digits
module _ (mask : ℕ) where
  first-odd : mask % 2 ≡ 1 → First mask 0
  first-odd e = record { here = bit-zero mask ∙ e; before = λ i h. absurd (omega arith); inside = λ k. inside mask 0 k (bit-zero mask ∙ e) }

  first-even : (t : ℕ) → mask % 2 ≡ 0 → First (mask / 2) t → First mask (suc t)
  first-even t e f = record { here = bit-suc mask t ∙ f.here; before = before; inside = λ k. inside mask (suc t) k (bit-suc mask t ∙ f.here) }
    where
      before : (i : ℕ) → i < suc t → bit mask i ≡ 0
      before zero h = bit-zero mask ∙ e
      before (suc i) h = bit-suc mask i ∙ f.before i (omega arith)

pub first-set : (d mask : ℕ) → 0 < mask → mask < 2 ^ d → First mask (count_trailing_zeros d mask)
unfolding count_trailing_zeros
first-set zero mask h l = absurd (omega arith)
first-set (suc d) mask h l = go (mask % 2) refl (λ e. first-set d (mask / 2) (omega arith) (omega (arith, rw pow-suc at l)))
  where
    go : (r : ℕ) → mask % 2 ≡ r → (mask % 2 ≡ 0 → First (mask / 2) (count_trailing_zeros d (mask / 2))) → First mask (under r (count_trailing_zeros d (mask / 2)))
    go zero e f = first-even mask _ e (f e)
    go (suc r) e f = first-odd mask (omega arith)

-- ---- bits of a conjunction
and-bit : (a b i : ℕ) → bit (bit_and a b) i ≡ min (bit a i) (bit b i)
unfolding bit
and-bit a b i = rw (and_shr, and_step (a / 2 ^ i) (b / 2 ^ i)) (omega arith)

pub both_zero : (a b i : ℕ) → bit (bit_and a b) i ≡ 0 → (bit a i ≡ 0) ⊎ (bit b i ≡ 0)
both_zero a b i h = ⊎_elim (λ (l : bit a i < 1). inl (omega arith)) (λ (l : 1 ≤ bit a i). inr (omega (arith, and-bit a b i))) (lt-or-le (bit a i) 1)

-- ---- a mask without its lowest bit that is set
without : ℕ → ℕ
without mask = bit_and mask (mask - 1)

without-odd : (mask : ℕ) → mask % 2 ≡ 1 → without mask ≡ 2 * (mask / 2) + 0
unfolding without
without-odd mask e =
    let h : (mask - 1) / 2 ≡ mask / 2 = omega arith in
    let z : (mask - 1) % 2 ≡ 0 = omega arith in
    and_step mask (mask - 1) ∙ rw (h, z, and_self) (omega arith)

without-even : (mask : ℕ) → mask % 2 ≡ 0 → without mask ≡ 2 * without (mask / 2) + 0
unfolding without
without-even mask e =
    let h : (mask - 1) / 2 ≡ mask / 2 - 1 = omega arith in
    and_step mask (mask - 1) ∙ rw (h, e) (omega arith)

-- bit i of it, for the lowest bit t
without-bit : (t mask i : ℕ) → bit mask t ≡ 1 → ((k : ℕ) → k < t → bit mask k ≡ 0) → (i ≤ t → bit (without mask) i ≡ 0) × (t < i → bit (without mask) i ≡ bit mask i)
without-bit zero mask zero e z = (λ h. rw (without-odd mask (sym (bit-zero mask) ∙ e)) (bit-new (mask / 2) 0 (lit< tt)), λ h. absurd (omega arith))
without-bit zero mask (suc i) e z = (λ h. absurd (omega arith), λ h. rw (without-odd mask (sym (bit-zero mask) ∙ e)) (bit-old (mask / 2) 0 (lit< tt) i ∙ sym (bit-suc mask i)))
without-bit (suc t) mask zero e z = (λ h. rw (without-even mask (sym (bit-zero mask) ∙ z 0 (omega arith))) (bit-new (without (mask / 2)) 0 (lit< tt)), λ h. absurd (omega arith))
without-bit (suc t) mask (suc i) e z =
    let r = without-bit t (mask / 2) i (sym (bit-suc mask t) ∙ e) (λ k h. sym (bit-suc mask k) ∙ z (suc k) (omega arith)) in
    rw (without-even mask (sym (bit-zero mask) ∙ z 0 (omega arith)), bit-old (without (mask / 2)) 0 (lit< tt) i) (λ h. r.0 (omega arith), λ h. r.1 (omega arith) ∙ sym (bit-suc mask i))

pub rest-set : (mask : ℕ) → 0 < mask → Rest mask (bit_and mask (mask - 1))
unfolding without
rest-set mask h =
    record {
      less = omega (arith, and_le_r mask (mask - 1));
      cleared = λ t f i. (without-bit t mask i f.here f.before).0;
      kept = λ t f i. (without-bit t mask i f.here f.before).1;
    }
