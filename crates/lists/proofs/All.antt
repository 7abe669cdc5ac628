-- A test at every place below n, all (tab t 0 n): the five laws of a loop that goes up while the test passes, and the test of every place.
use Prim.Native.Nat.{ℕ, zero, suc, ◌+◌, ◌<◌, ◌≤◌}
use native.Mathlib.Omega.{arith}
use mathlib.Core.Bool.{Bool, true, false, ◌&&◌, and_assoc, and-false}
use mathlib.Core.Path.{◌≡◌, refl, sym, ap, ◌∙◌}
use mathlib.Core.List.{List, [], ◌∷◌, ◌++◌}
use Rattle.model_problems.specs.Lists.{tab, all}
use Rattle.lists.proofs.Bools.{and-true, and_both}
use Rattle.lists.proofs.Tab.{tab-more}

pub all_append : (xs ys : List Bool) → all (xs ++ ys) ≡ (all xs && all ys)
unfolding all
all_append [] ys = refl
all_append (x ∷ xs) ys = rw (all_append xs ys) (sym (and_assoc x (all xs) (all ys)))

module _ (t : ℕ → Bool) where
  -- ---- the test of every place
  all-at-from : (i c k : ℕ) → all (tab t i c) ≡ true → k < c → t (i + k) ≡ true
  unfolding all tab
  all-at-from i zero k a l = absurd (omega arith)
  all-at-from i (suc c) zero a l = ap t (omega arith) ∙ (and-true (t i) (all (tab t (suc i) c)) a).0
  all-at-from i (suc c) (suc k) a l = ap t (omega arith) ∙ all-at-from (suc i) c k (and-true (t i) (all (tab t (suc i) c)) a).1 (omega arith)

  pub all-at : (n k : ℕ) → all (tab t 0 n) ≡ true → k < n → t k ≡ true
  all-at n k a l = ap t (omega arith) ∙ all-at-from 0 n k a l

  all-of-from : (i c : ℕ) → ((k : ℕ) → k < i + c → t k ≡ true) → all (tab t i c) ≡ true
  unfolding all tab
  all-of-from i zero h = refl
  all-of-from i (suc c) h = and_both (h i (omega arith)) (all-of-from (suc i) c (λ k l. h k (omega arith)))

  pub all-of : (n : ℕ) → ((k : ℕ) → k < n → t k ≡ true) → all (tab t 0 n) ≡ true
  all-of n h = all-of-from 0 n (λ k l. h k (omega arith))

  -- ---- a loop: no place yet, one more, the end
  pub all_none : all (tab t 0 0) ≡ true
  unfolding all tab
  all_none = refl

  pub all_more : (i : ℕ) → all (tab t 0 i) ≡ true → t i ≡ true → all (tab t 0 (i + 1)) ≡ true
  unfolding all
  all_more i a e = ap all (tab-more t i) ∙ all_append (tab t 0 i) (t i ∷ []) ∙ rw (a, e)

  pub all_end : (n i : ℕ) → n ≤ i → i ≤ n → all (tab t 0 i) ≡ true → all (tab t 0 n) ≡ true
  all_end n i l h a = let z : i ≡ n = omega arith in rw z at a

  -- a place where the test fails
  all-fails-from : (i c k : ℕ) → k < c → t (i + k) ≡ false → all (tab t i c) ≡ false
  unfolding all tab
  all-fails-from i zero k l e = absurd (omega arith)
  all-fails-from i (suc c) zero l e = let f : t i ≡ false = ap t (omega arith) ∙ e in rw f
  all-fails-from i (suc c) (suc k) l e = rw (all-fails-from (suc i) c k (omega arith) (ap t (omega arith) ∙ e)) (and-false (t i))

  pub all-fails : (n k : ℕ) → k < n → t k ≡ false → all (tab t 0 n) ≡ false
  all-fails n k l e = all-fails-from 0 n k l (ap t (omega arith) ∙ e)
