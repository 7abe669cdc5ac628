-- The first of two options, and an option with a value in its place.
use mathlib.Core.Path.{◌≡◌, refl}
use mathlib.Core.Logic.{◌⊎◌, inl, inr}
use mathlib.Core.Option.{Option, none, some}
use Prim.Native.Nat.{ℕ}
use native.Mathlib.Omega.{arith}
use Rattle.model_problems.specs.Lists.{or_else, with_default}

module _ {A : Type 0} where
  pub or_else-none : (x : Option A) → or_else x none ≡ x
  unfolding or_else
  or_else-none none = refl
  or_else-none (some a) = refl

  pub or_else-assoc : (x y z : Option A) → or_else (or_else x y) z ≡ or_else x (or_else y z)
  unfolding or_else
  or_else-assoc none y z = refl
  or_else-assoc (some a) y z = refl

  -- which of the two it is
  pub or_else-some : (x y : Option A) (a : A) → or_else x y ≡ some a → (x ≡ some a) ⊎ ((x ≡ none) × (y ≡ some a))
  unfolding or_else
  or_else-some none y a e = inr (refl, e)
  or_else-some (some b) y a e = inl e

  pub or_else-neither : (x y : Option A) → or_else x y ≡ none → (x ≡ none) × (y ≡ none)
  unfolding or_else
  or_else-neither none y e = (refl, e)
  or_else-neither (some b) y e = let z : ◌≡◌ {A = ℕ} 0 1 = cc in absurd (omega arith)

  pub default-or_else : (d : A) (x y : Option A) → with_default d (or_else x y) ≡ with_default (with_default d y) x
  unfolding or_else with_default
  default-or_else d none y = refl
  default-or_else d (some a) y = refl
