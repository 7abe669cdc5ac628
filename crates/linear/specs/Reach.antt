-- Spans: how far each variable can move a constraint, and a number that none exceeds.
use Rattle.std.specs.Prelude.{ℕ, ◌*◌, ◌<◌, List, ℤ, pos, nat_abs, ◌-ℤ◌, ◌*ℤ◌, ◌≤ℤ◌}
use Rattle.model_problems.specs.Ranges.{max_coefficient}
use Rattle.model_problems.specs.Constraint.{Bounds}
use Rattle.integer.specs.Size.{Within}
use Rattle.layout.specs.Rows.{cell, bounds_at}
use Rattle.linear.specs.Ranges.{widest_change}

-- |a| · (U − L)
unfoldable pub span_of : ℤ → Bounds → ℤ
span_of a b = pos (nat_abs a) *ℤ (b.upper -ℤ b.lower)

abbrev pub widest_span : ℕ
widest_span = max_coefficient * widest_change

-- r is at least `most` and the span
pub record Further (most a : ℤ) (b : Bounds) (r : ℤ) : Type 0 where
  pub before : most ≤ℤ r
  pub here : span_of a b ≤ℤ r
  pub size : Within widest_span r

-- r is at least the span of each variable of the constraint whose row starts at `start`
pub record Reaches (n : ℕ) (rows : List ℤ) (start : ℕ) (lower upper : List ℤ) (r : ℤ) : Type 0 where
  pub spans : (i : ℕ) → i < n → span_of (cell rows start i) (bounds_at lower upper i) ≤ℤ r
  pub size : Within widest_span r
