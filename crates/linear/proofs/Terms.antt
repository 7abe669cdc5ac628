-- A constraint's terms: the sign that picks the bound, and the loop that adds them up.
use mathlib.Core.Bool.{true, false}
use mathlib.Core.List.{List}
use mathlib.Core.Path.{◌≡◌, refl, sym}
use Prim.Native.Nat.{ℕ, ◌+◌, ◌-◌, ◌<◌, ◌≤◌}
use native.Mathlib.Nat.{sub-zero}
use lib.Dec.{leb-zero}
use lib.IntN.{ℤ, pos, negsuc, ◌+ℤ◌, ◌*ℤ◌, +ℤ_assoc, +ℤ_idr}
use lib.Signed.{le_z}
use Rattle.model_problems.specs.Lists.{tab}
use Rattle.model_problems.specs.Constraint.{Bounds, term, terms, activity}
use Rattle.lists.proofs.Bools.{clash}
use Rattle.lists.proofs.Tab.{tab-step, tab-end}
use Rattle.layout.specs.Rows.{number_in, cell, constraint_at, bounds_at, box_of}

pub term-lower : (a : ℤ) (b : Bounds) → le_z (pos 0) a ≡ true → a *ℤ b.lower ≡ term a b
unfolding term
term-lower (pos a) b e = refl
term-lower (negsuc a) b e = clash e refl

pub term-upper : (a : ℤ) (b : Bounds) → le_z (pos 0) a ≡ false → a *ℤ b.upper ≡ term a b
unfolding term
term-upper (pos a) b e = clash (leb-zero a) e
term-upper (negsuc a) b e = refl

-- what the variables from i on add to the activity
unfoldable pub rest : ℕ → List ℤ → ℕ → List ℤ → List ℤ → ℕ → ℤ
rest n rows start lower upper i = terms (tab (cell rows start) i (n - i)) (tab (bounds_at lower upper) i (n - i))

module _ (n : ℕ) (rows : List ℤ) (start : ℕ) (lower upper : List ℤ) where
  pub rest-start : number_in rows start +ℤ rest n rows start lower upper 0 ≡ activity (constraint_at n rows start) (box_of n lower upper)
  unfolding rest activity constraint_at box_of
  rest-start = rw (sub-zero n)

  pub rest-step : (s : ℤ) (i : ℕ) → i < n →
      s +ℤ rest n rows start lower upper i ≡ (s +ℤ term (cell rows start i) (bounds_at lower upper i)) +ℤ rest n rows start lower upper (i + 1)
  unfolding rest terms
  rest-step s i h = rw (tab-step (cell rows start) n i h, tab-step (bounds_at lower upper) n i h) (sym (+ℤ_assoc s _ _))

  pub rest_end : (s : ℤ) (i : ℕ) → n ≤ i → s +ℤ rest n rows start lower upper i ≡ s
  unfolding rest terms
  rest_end s i h = rw (tab-end (cell rows start) n i h) (+ℤ_idr s)
