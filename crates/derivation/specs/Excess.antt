-- Constraints that no rounding brings into range.
use Rattle.std.specs.Prelude.{ℕ, ◌≤◌, ◌<◌, false, List, ◌⊎◌, ◌≡◌, ℤ, length}
use Rattle.model_problems.specs.Constraint.{Constraint, rounded_by, rounded, in_range}
use Rattle.layout.specs.Rows.{row_length, constraint_at}

-- divided by r or less, it is out of range
abbrev pub Excess : Constraint → ℕ → Type 0
Excess k r = (h : ℕ) → 0 < h → h ≤ r → in_range (rounded_by h k) ≡ false

-- k' is k rounded, or both are out of range
abbrev pub RoundedOrOut : Constraint → Constraint → Type 0
RoundedOrOut k k' = (k' ≡ rounded k) ⊎ ((in_range k' ≡ false) × (in_range (rounded k) ≡ false))

-- so the row of n variables after, from the row before
pub record RoundedInRange (n : ℕ) (before after : List ℤ) : Type 0 where
  pub size : length after ≡ row_length
  pub same : RoundedOrOut (constraint_at n before 0) (constraint_at n after 0)
