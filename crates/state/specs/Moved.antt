-- Where a kept constraint stands as cuts are learned and the oldest go.
use Rattle.std.specs.Prelude.{ℕ, ◌+◌, ◌-◌, ◌≤◌, ◌<◌, cond, List, ◌≡◌, ltb, ℤ}
use Rattle.layout.specs.Rows.{row_at}
use Rattle.state.specs.View.{kept_cuts, dropped_cuts}

-- the position that the constraint now at position j had when `by` fewer cuts were gone
unfoldable pub place_of : ℕ → ℕ → ℕ → ℕ
place_of m by j = cond (ltb j m) j (j + by)

-- each constraint that was kept before stands where it stood, or further down by the cuts that went
pub record RowsMoved (n m made made₁ : ℕ) (rows rows₁ : List ℤ) : Type 0 where
  pub more : made ≤ made₁
  pub at : (j : ℕ) → j < m + kept_cuts made₁ → place_of m (dropped_cuts made₁ - dropped_cuts made) j < m + kept_cuts made → row_at n rows₁ j ≡ row_at n rows (place_of m (dropped_cuts made₁ - dropped_cuts made) j)
