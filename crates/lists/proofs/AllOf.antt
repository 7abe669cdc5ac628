-- A test that passes at every element of a list.
use Prim.Native.Nat.{ℕ, zero, suc, ◌<◌}
use native.Mathlib.Omega.{arith}
use mathlib.Core.Bool.{Bool, true, false, ◌&&◌, and_assoc, and-false}
use mathlib.Core.Path.{◌≡◌, refl, sym, ap, ◌∙◌}
use mathlib.Core.List.{List, [], ◌∷◌, ◌++◌, map}
use lib.ListN.{length, get_or, set, take, drop, replicate}
use Rattle.model_problems.specs.Lists.{tab, all, all_of}
use Rattle.lists.proofs.Bools.{and-true, and_both}

module _ {A : Type 0} (t : A → Bool) where
  -- ---- by position: at each place, from each place, and a place where it fails
  pub all_of-get_d : (xs : List A) (k : ℕ) (d : A) → all_of t xs ≡ true → k < length xs → t (get_or xs k d) ≡ true
  unfolding all_of
  all_of-get_d [] k d a l = absurd (omega arith)
  all_of-get_d (x ∷ xs) zero d a l = (and-true (t x) (all_of t xs) a).0
  all_of-get_d (x ∷ xs) (suc k) d a l = all_of-get_d xs k d (and-true (t x) (all_of t xs) a).1 (omega arith)

  pub all_of-of : (xs : List A) (d : A) → ((k : ℕ) → k < length xs → t (get_or xs k d) ≡ true) → all_of t xs ≡ true
  unfolding all_of
  all_of-of [] d h = refl
  all_of-of (x ∷ xs) d h = and_both (h 0 (omega arith)) (all_of-of xs d (λ k l. h (suc k) (omega arith)))

  pub all_of-fails : (xs : List A) (k : ℕ) (d : A) → k < length xs → t (get_or xs k d) ≡ false → all_of t xs ≡ false
  unfolding all_of
  all_of-fails [] k d l e = absurd (omega arith)
  all_of-fails (x ∷ xs) zero d l e = rw e
  all_of-fails (x ∷ xs) (suc k) d l e = rw (all_of-fails xs k d (omega arith) e) (and-false (t x))

  -- ---- by the list's parts
  pub all_of-append : (xs ys : List A) → all_of t (xs ++ ys) ≡ (all_of t xs && all_of t ys)
  unfolding all_of
  all_of-append [] ys = refl
  all_of-append (x ∷ xs) ys = rw (all_of-append xs ys) (sym (and_assoc (t x) (all_of t xs) (all_of t ys)))

  pub all_of-split : (xs ys : List A) → all_of t (xs ++ ys) ≡ true → (all_of t xs ≡ true) × (all_of t ys ≡ true)
  all_of-split xs ys a = and-true (all_of t xs) (all_of t ys) (sym (all_of-append xs ys) ∙ a)

  pub all_of-join : (xs ys : List A) → all_of t xs ≡ true → all_of t ys ≡ true → all_of t (xs ++ ys) ≡ true
  all_of-join xs ys a b = all_of-append xs ys ∙ and_both a b

  pub all_of-take : (n : ℕ) (xs : List A) → all_of t xs ≡ true → all_of t (take n xs) ≡ true
  unfolding all_of
  all_of-take zero xs a = refl
  all_of-take (suc n) [] a = refl
  all_of-take (suc n) (x ∷ xs) a = let b = and-true (t x) (all_of t xs) a in and_both b.0 (all_of-take n xs b.1)

  pub all_of-drop : (n : ℕ) (xs : List A) → all_of t xs ≡ true → all_of t (drop n xs) ≡ true
  unfolding all_of
  all_of-drop zero xs a = a
  all_of-drop (suc n) [] a = refl
  all_of-drop (suc n) (x ∷ xs) a = all_of-drop n xs (and-true (t x) (all_of t xs) a).1

  pub all_of-set : (xs : List A) (k : ℕ) (v : A) → all_of t xs ≡ true → t v ≡ true → all_of t (set xs k v) ≡ true
  unfolding all_of
  all_of-set [] k v a e = refl
  all_of-set (x ∷ xs) zero v a e = and_both e (and-true (t x) (all_of t xs) a).1
  all_of-set (x ∷ xs) (suc k) v a e = let b = and-true (t x) (all_of t xs) a in and_both b.0 (all_of-set xs k v b.1 e)

  -- ---- of lists that are made
  pub all_of-tab : (f : ℕ → A) (i c : ℕ) → all_of t (tab f i c) ≡ all (tab (λ k. t (f k)) i c)
  unfolding all_of tab all
  all_of-tab f i zero = refl
  all_of-tab f i (suc c) = ap (λ (b : Bool). t (f i) && b) (all_of-tab f (suc i) c)

  pub all_of-replicate : (n : ℕ) (x : A) → t x ≡ true → all_of t (replicate n x) ≡ true
  unfolding all_of
  all_of-replicate zero x e = refl
  all_of-replicate (suc n) x e = and_both e (all_of-replicate n x e)

  pub all_of-map : {B : Type 0} (f : B → A) (xs : List B) → all_of t (map f xs) ≡ all_of (λ x. t (f x)) xs
  unfolding all_of
  all_of-map f [] = refl
  all_of-map f (x ∷ xs) = ap (λ (b : Bool). t (f x) && b) (all_of-map f xs)

-- a weaker test
pub all_of-weaker : {A : Type 0} (t u : A → Bool) → ((x : A) → t x ≡ true → u x ≡ true) → (xs : List A) → all_of t xs ≡ true → all_of u xs ≡ true
unfolding all_of
all_of-weaker t u h [] a = refl
all_of-weaker t u h (x ∷ xs) a = let b = and-true (t x) (all_of t xs) a in and_both (h x b.0) (all_of-weaker t u h xs b.1)
