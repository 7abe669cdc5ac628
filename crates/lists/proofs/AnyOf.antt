-- A test that passes at some element of a list.
use Prim.Native.Nat.{ℕ, zero, suc, ◌<◌}
use native.Mathlib.Omega.{arith}
use mathlib.Core.Bool.{Bool, true, false, ◌||◌, or_assoc}
use mathlib.Core.Path.{◌≡◌, refl, sym, ap}
use mathlib.Core.Logic.{⊎_elim}
use mathlib.Core.List.{List, [], ◌∷◌, ◌++◌, map}
use lib.ListN.{length, get_or}
use Rattle.model_problems.specs.Lists.{any_of}
use Rattle.lists.proofs.Bools.{clash, or-true, or-false, or_right}

module _ {A : Type 0} (t : A → Bool) where
  -- ---- it passes: from a place, and to one
  pub any_of-get_d : (xs : List A) (k : ℕ) (d : A) → k < length xs → t (get_or xs k d) ≡ true → any_of t xs ≡ true
  unfolding any_of
  any_of-get_d [] k d l e = absurd (omega arith)
  any_of-get_d (x ∷ xs) zero d l e = rw e
  any_of-get_d (x ∷ xs) (suc k) d l e = or_right (t x) (any_of-get_d xs k d (omega arith) e)

  pub any_of-place : (xs : List A) (d : A) → any_of t xs ≡ true → (k : ℕ) × (k < length xs) × (t (get_or xs k d) ≡ true)
  unfolding any_of
  any_of-place [] d a = clash a refl
  any_of-place (x ∷ xs) d a =
      ⊎_elim (λ e. (0, omega arith, e)) (λ e. let r = any_of-place xs d e in let l = r.1 in (suc r.0, omega arith, r.2)) (or-true (t x) (any_of t xs) a)

  -- ---- it fails: at every place, and from every place
  pub any_of-none-at : (xs : List A) (k : ℕ) (d : A) → any_of t xs ≡ false → k < length xs → t (get_or xs k d) ≡ false
  unfolding any_of
  any_of-none-at [] k d a l = absurd (omega arith)
  any_of-none-at (x ∷ xs) zero d a l = (or-false (t x) (any_of t xs) a).0
  any_of-none-at (x ∷ xs) (suc k) d a l = any_of-none-at xs k d (or-false (t x) (any_of t xs) a).1 (omega arith)

  pub any_of-none : (xs : List A) (d : A) → ((k : ℕ) → k < length xs → t (get_or xs k d) ≡ false) → any_of t xs ≡ false
  unfolding any_of
  any_of-none [] d h = refl
  any_of-none (x ∷ xs) d h = rw (h 0 (omega arith)) (any_of-none xs d (λ k l. h (suc k) (omega arith)))

  -- ---- of lists that are put together
  pub any_of-append : (xs ys : List A) → any_of t (xs ++ ys) ≡ (any_of t xs || any_of t ys)
  unfolding any_of
  any_of-append [] ys = refl
  any_of-append (x ∷ xs) ys = rw (any_of-append xs ys) (sym (or_assoc (t x) (any_of t xs) (any_of t ys)))

  pub any_of-map : {B : Type 0} (f : B → A) (xs : List B) → any_of t (map f xs) ≡ any_of (λ x. t (f x)) xs
  unfolding any_of
  any_of-map f [] = refl
  any_of-map f (x ∷ xs) = ap (λ (b : Bool). t (f x) || b) (any_of-map f xs)
