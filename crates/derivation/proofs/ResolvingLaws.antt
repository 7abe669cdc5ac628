-- 'Combining' as the code does it: the signs, a row of sums of two products, and the multipliers.
use Prim.Native.Nat.{ℕ, zero, suc, ◌+◌, ◌/◌, ◌<◌}
use native.Mathlib.Omega.{arith}
use mathlib.Core.Bool.{true, ◌&&◌, ◌||◌}
use mathlib.Core.List.{List, ◌∷◌}
use mathlib.Core.Path.{◌≡◌, refl, ap, sym, ◌∙◌}
use borrow.Author.Count.{below_more}
use lib.ListN.{set, length}
use lib.Seq.{get_or-set_same, get_or-set_other}
use Rattle.std.proofs.lemmas.Int.{ints}
use lib.IntN.{ℤ, pos, negsuc, nat_abs, ◌+ℤ◌, ◌*ℤ◌}
use lib.Signed.{lt_z}
use mir.Syntax.{w64}
use mir.Val.{SFits, to_z, of_z}
use Rattle.model_problems.specs.Ranges.{max_coefficient}
use Rattle.model_problems.specs.Lists.{tab}
use Rattle.model_problems.specs.Division.{gcd}
use Rattle.model_problems.specs.Constraint.{Constraint, coefficient_at, rounded, mixed, combination, resolvent, opposite}
use Rattle.integer.specs.Size.{Within}
use Rattle.integer.specs.Automatic.{exps, fits!, eq! }
use Rattle.lists.proofs.Bools.{clash}
use Rattle.layout.specs.Rows.{number_in, cell, constraint_at}
use Rattle.layout.proofs.Rows.{constraint-eq}
use Rattle.lists.proofs.Tab.{tab-ext-0}

-- ---- the signs, by the tests that the code makes
pub opposite-is : (a b : ℤ) → opposite a b ≡ (lt_z (pos 0) a && lt_z b (pos 0)) || (lt_z a (pos 0) && lt_z (pos 0) b)
unfolding opposite
opposite-is (pos zero) b = refl
opposite-is (pos (suc a)) b = grind (arith, ints)
opposite-is (negsuc a) b = refl

pub opposite-not-zero : (a b : ℤ) → opposite a b ≡ true → 0 < nat_abs a
unfolding opposite
opposite-not-zero (pos zero) b e = clash e refl
opposite-not-zero (pos (suc a)) b e = omega arith
opposite-not-zero (negsuc a) b e = omega arith

-- ---- the sum of two products, of numbers in range
module _ (p a q b : ℤ) (hp : Within max_coefficient p) (ha : Within max_coefficient a) (hq : Within max_coefficient q) (hb : Within max_coefficient b) where
  abbrev computed : ℤ
  computed = to_z w64 (of_z w64 (to_z w64 (of_z w64 p) *ℤ to_z w64 (of_z w64 a))) +ℤ to_z w64 (of_z w64 (to_z w64 (of_z w64 q) *ℤ to_z w64 (of_z w64 b)))

  pub sum_fits : SFits w64 computed
  sum_fits = fits! (search exps depth 8) tt

  pub sum_is : to_z w64 (of_z w64 computed) ≡ p *ℤ a +ℤ q *ℤ b
  sum_is = eq! (search exps depth 8) (search exps depth 8) tt (omega arith)

-- ---- a row of such sums
tab-mixed : (s : ℕ) (f : ℕ → ℤ) (t : ℕ) (g : ℕ → ℤ) (i c : ℕ) → mixed s (tab f i c) t (tab g i c) ≡ tab (λ k. pos s *ℤ f k +ℤ pos t *ℤ g k) i c
unfolding mixed tab
tab-mixed s f t g i zero = refl
tab-mixed s f t g i (suc c) = ap (λ (l : List ℤ). (pos s *ℤ f i +ℤ pos t *ℤ g i) ∷ l) (tab-mixed s f t g (suc i) c)

-- the numbers of the row, stored one by one
abbrev pub AreMixed : ℕ → ℕ → List ℤ → List ℤ → ℕ → List ℤ → Type 0
AreMixed s t f j n r = (k : ℕ) → k < n → number_in r k ≡ pos s *ℤ number_in f k +ℤ pos t *ℤ number_in j k

pub mixed-more : (s t : ℕ) (f j : List ℤ) (i : ℕ) (r : List ℤ) (v : ℤ) → i < length r → AreMixed s t f j i r → v ≡ pos s *ℤ number_in f i +ℤ pos t *ℤ number_in j i →
    AreMixed s t f j (i + 1) (set r i v)
unfolding number_in
mixed-more s t f j i r v l h e =
    below_more (λ k. number_in (set r i v) k ≡ pos s *ℤ number_in f k +ℤ pos t *ℤ number_in j k) i
    (λ k m. get_or-set_other r i k v (pos 0) (λ x. omega arith) ∙ h k m)
    (get_or-set_same r i v (pos 0) l ∙ e)

pub mixed-row : (s t n : ℕ) (f j r : List ℤ) → AreMixed s t f j (n + 1) r → constraint_at n r 0 ≡ combination s (constraint_at n f 0) t (constraint_at n j 0)
unfolding combination constraint_at cell
mixed-row s t n f j r h =
    constraint-eq (h 0 (omega arith))
    (tab-ext-0 (cell r 0) (λ k. pos s *ℤ cell f 0 k +ℤ pos t *ℤ cell j 0 k) n (λ k l. h (0 + 1 + k) (omega arith)) ∙ sym (tab-mixed s (cell f 0) t (cell j 0) 0 n))

-- ---- resolving, from the two sizes and their divisor
pub resolvent-of : (i : ℕ) (f j : Constraint) (a b g : ℕ) → a ≡ nat_abs (coefficient_at f i) → b ≡ nat_abs (coefficient_at j i) → g ≡ gcd a b →
    rounded (combination (b / g) f (a / g) j) ≡ resolvent i f j
unfolding resolvent
resolvent-of i f j a b g p q r = rw (r, p, q)
