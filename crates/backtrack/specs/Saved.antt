-- What is tracked of the constraints, saved for each level that a decision leaves.
use Rattle.std.specs.Prelude.{ℕ, ◌+◌, ◌-◌, ◌*◌, ◌≤◌, ◌<◌, List, ◌≡◌, ℤ, get_or, length}
use Rattle.layout.specs.Rows.{number_in, max_rows}
use Rattle.state.specs.View.{kept_cuts, dropped_cuts, no_level}
use Rattle.state.specs.Moved.{place_of}
use Rattle.state.specs.declared.Level.{Level}
use Rattle.propagate.specs.Tracked.{Known}

-- the numbers saved for one level
abbrev pub saved_room : ℕ
saved_room = max_rows

-- level t: `count` constraints were saved when `gone` cuts were gone; those that are still kept are known
pub record SavedAt (n m made : ℕ) (rows lower upper olds limits : List ℤ) (gone count t : ℕ) : Type 0 where
  pub order : gone ≤ dropped_cuts made
  pub bound : count + gone ≤ m + made
  pub most : count ≤ saved_room
  pub at : (j : ℕ) → j < m + kept_cuts made → place_of m (dropped_cuts made - gone) j < count →
      Known n rows lower upper j (number_in olds (saved_room * t + place_of m (dropped_cuts made - gone) j)) (number_in limits (saved_room * t + place_of m (dropped_cuts made - gone) j))

-- the levels above depth
pub record Saved (n m made : ℕ) (rows : List ℤ) (levels : List Level) (olds limits : List ℤ) (gones counts : List ℕ) (depth : ℕ) : Type 0 where
  pub at : (t : ℕ) → t < depth →
      SavedAt n m made rows (get_or levels t no_level).lower (get_or levels t no_level).upper olds limits (get_or gones t 0) (get_or counts t 0) t

-- the arrays are as long as they are declared
pub record Roomy (olds limits : List ℤ) (gones counts : List ℕ) : Type 0 where
  pub olds_long : length olds ≡ 4224
  pub limits_long : length limits ≡ 4224
  pub gones_long : length gones ≡ 33
  pub counts_long : length counts ≡ 33
