-- A property of every element of a list, and the tests that say it.
use mathlib.Core.Bool.{Bool}
use mathlib.Core.List.{List, [], ◌∷◌}
use lib.Dec.{T}
use mir.Facts.{and_yes, yes_and}
use Rattle.model_problems.specs.Lists.{all, all_of}

-- every element has the property
abbrev pub Every : {A : Type 0} → (A → Type 0) → List A → Type 0
Every p [] = Unit {0}
Every p (x ∷ xs) = p x × Every p xs

-- a proof for each element, as `a & b & tt`
infixr 4 ◌&◌
abbrev pub ◌&◌ : {A B : Type 0} → A → B → A × B
a & b = (a, b)

-- ---- a list of tests
pub all_in : (ts : List Bool) → T (all ts) → Every T ts
unfolding all
all_in [] h = tt
all_in (t ∷ ts) h = let i = and_yes t (all ts) h in (i.0, all_in ts i.1)

pub all-out : (ts : List Bool) → Every T ts → T (all ts)
unfolding all
all-out [] h = tt
all-out (t ∷ ts) h = yes_and t (all ts) h.0 (all-out ts h.1)

-- ---- a test, or two, of every element as the property that they tell, and a test from a property
module _ {A : Type 0} (p : A → Type 0) where
  pub every_of : (t : A → Bool) → ((x : A) → T (t x) → p x) → (xs : List A) → T (all_of t xs) → Every p xs
  unfolding all_of
  every_of t f [] h = tt
  every_of t f (x ∷ xs) h = let i = and_yes (t x) (all_of t xs) h in (f x i.0, every_of t f xs i.1)

  pub every_in : (t u : A → Bool) → ((x : A) → T (t x) → T (u x) → p x) → (xs : List A) → T (all_of t xs) → T (all_of u xs) → Every p xs
  unfolding all_of
  every_in t u f [] g h = tt
  every_in t u f (x ∷ xs) g h =
      let i = and_yes (t x) (all_of t xs) g in
      let j = and_yes (u x) (all_of u xs) h in
      (f x i.0 j.0, every_in t u f xs i.1 j.1)

  pub every-out : (t : A → Bool) → ((x : A) → p x → T (t x)) → (xs : List A) → Every p xs → T (all_of t xs)
  unfolding all_of
  every-out t f [] h = tt
  every-out t f (x ∷ xs) h = yes_and (t x) (all_of t xs) (f x h.0) (every-out t f xs h.1)
