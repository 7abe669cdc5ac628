-- A test that passes at each place of two lists of one length.
use Prim.Native.Nat.{ℕ, zero, suc, ◌<◌}
use native.Mathlib.Omega.{arith}
use mathlib.Core.Bool.{Bool, true, false, ◌&&◌, and-false}
use mathlib.Core.Path.{◌≡◌, refl, ap, ap₂}
use mathlib.Core.Logic.{◌≢◌}
use mathlib.Core.List.{List, [], ◌∷◌}
use lib.ListN.{length, get_or, set}
use Rattle.model_problems.specs.Lists.{tab, all, all_pairs}
use Rattle.lists.proofs.Bools.{clash, and-true, and_both}

module _ {A B : Type 0} (t : A → B → Bool) where
  -- ---- what it says: one length, and the test at each place
  pub pairs-length : (xs : List A) (ys : List B) → all_pairs t xs ys ≡ true → length xs ≡ length ys
  unfolding all_pairs
  pairs-length [] [] a = refl
  pairs-length [] (y ∷ ys) a = clash a refl
  pairs-length (x ∷ xs) [] a = clash a refl
  pairs-length (x ∷ xs) (y ∷ ys) a = ap suc (pairs-length xs ys (and-true (t x y) (all_pairs t xs ys) a).1)

  pub pairs-get_d : (xs : List A) (ys : List B) (k : ℕ) (d : A) (e : B) → all_pairs t xs ys ≡ true → k < length xs → t (get_or xs k d) (get_or ys k e) ≡ true
  unfolding all_pairs
  pairs-get_d [] ys k d e a l = absurd (omega arith)
  pairs-get_d (x ∷ xs) [] k d e a l = clash a refl
  pairs-get_d (x ∷ xs) (y ∷ ys) zero d e a l = (and-true (t x y) (all_pairs t xs ys) a).0
  pairs-get_d (x ∷ xs) (y ∷ ys) (suc k) d e a l = pairs-get_d xs ys k d e (and-true (t x y) (all_pairs t xs ys) a).1 (omega arith)

  -- ---- and back
  pub pairs_of : (xs : List A) (ys : List B) (d : A) (e : B) → length xs ≡ length ys → ((k : ℕ) → k < length xs → t (get_or xs k d) (get_or ys k e) ≡ true) → all_pairs t xs ys ≡ true
  unfolding all_pairs
  pairs_of [] [] d e l h = refl
  pairs_of [] (y ∷ ys) d e l h = absurd (omega arith)
  pairs_of (x ∷ xs) [] d e l h = absurd (omega arith)
  pairs_of (x ∷ xs) (y ∷ ys) d e l h = and_both (h 0 (omega arith)) (pairs_of xs ys d e (omega arith) (λ k m. h (suc k) (omega arith)))

  -- ---- it fails: the lengths differ, or the test fails at a place
  pub pairs-uneven : (xs : List A) (ys : List B) → length xs ≢ length ys → all_pairs t xs ys ≡ false
  unfolding all_pairs
  pairs-uneven [] [] n = absurd (n refl)
  pairs-uneven [] (y ∷ ys) n = refl
  pairs-uneven (x ∷ xs) [] n = refl
  pairs-uneven (x ∷ xs) (y ∷ ys) n = rw (pairs-uneven xs ys (λ e. n (ap suc e))) (and-false (t x y))

  pub pairs-fails : (xs : List A) (ys : List B) (k : ℕ) (d : A) (e : B) → k < length xs → k < length ys → t (get_or xs k d) (get_or ys k e) ≡ false → all_pairs t xs ys ≡ false
  unfolding all_pairs
  pairs-fails [] ys k d e l m f = absurd (omega arith)
  pairs-fails (x ∷ xs) [] k d e l m f = absurd (omega arith)
  pairs-fails (x ∷ xs) (y ∷ ys) zero d e l m f = rw f
  pairs-fails (x ∷ xs) (y ∷ ys) (suc k) d e l m f = rw (pairs-fails xs ys k d e (omega arith) (omega arith) f) (and-false (t x y))

  -- ---- one element set on both sides, and on the left alone
  pub pairs_set : (xs : List A) (ys : List B) (k : ℕ) (v : A) (w : B) → all_pairs t xs ys ≡ true → t v w ≡ true → all_pairs t (set xs k v) (set ys k w) ≡ true
  unfolding all_pairs
  pairs_set [] [] k v w a e = refl
  pairs_set [] (y ∷ ys) k v w a e = clash a refl
  pairs_set (x ∷ xs) [] k v w a e = clash a refl
  pairs_set (x ∷ xs) (y ∷ ys) zero v w a e = and_both e (and-true (t x y) (all_pairs t xs ys) a).1
  pairs_set (x ∷ xs) (y ∷ ys) (suc k) v w a e = let b = and-true (t x y) (all_pairs t xs ys) a in and_both b.0 (pairs_set xs ys k v w b.1 e)

  pub pairs-set-left : (xs : List A) (ys : List B) (k : ℕ) (v : A) (e : B) → all_pairs t xs ys ≡ true → t v (get_or ys k e) ≡ true → all_pairs t (set xs k v) ys ≡ true
  unfolding all_pairs
  pairs-set-left [] ys k v e a h = a
  pairs-set-left (x ∷ xs) [] k v e a h = clash a refl
  pairs-set-left (x ∷ xs) (y ∷ ys) zero v e a h = and_both h (and-true (t x y) (all_pairs t xs ys) a).1
  pairs-set-left (x ∷ xs) (y ∷ ys) (suc k) v e a h = let b = and-true (t x y) (all_pairs t xs ys) a in and_both b.0 (pairs-set-left xs ys k v e b.1 h)

  -- ---- of two tables
  pub pairs-tab : (f : ℕ → A) (g : ℕ → B) (i c : ℕ) → all_pairs t (tab f i c) (tab g i c) ≡ all (tab (λ k. t (f k) (g k)) i c)
  unfolding all_pairs tab all
  pairs-tab f g i zero = refl
  pairs-tab f g i (suc c) = ap (λ (b : Bool). t (f i) (g i) && b) (pairs-tab f g (suc i) c)

-- ---- a test of equality: the lists are equal, and back
module _ {A : Type 0} (t : A → A → Bool) where
  pub pairs-equal : ((x y : A) → t x y ≡ true → x ≡ y) → (xs ys : List A) → all_pairs t xs ys ≡ true → xs ≡ ys
  unfolding all_pairs
  pairs-equal h [] [] a = refl
  pairs-equal h [] (y ∷ ys) a = clash a refl
  pairs-equal h (x ∷ xs) [] a = clash a refl
  pairs-equal h (x ∷ xs) (y ∷ ys) a =
      let b = and-true (t x y) (all_pairs t xs ys) a in
      ap₂ (λ (z : A) (l : List A). z ∷ l) (h x y b.0) (pairs-equal h xs ys b.1)

  pub pairs-refl : ((x : A) → t x x ≡ true) → (xs : List A) → all_pairs t xs xs ≡ true
  unfolding all_pairs
  pairs-refl h [] = refl
  pairs-refl h (x ∷ xs) = and_both (h x) (pairs-refl h xs)
