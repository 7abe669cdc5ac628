-- A decision, and going back to a level with its decision flipped.
use Rattle.std.specs.Prelude.{ℕ, ◌+◌, ◌≤◌, ◌<◌, List, ◌≡◌, ℤ, get_or, set, length}
use Rattle.model_problems.specs.Ranges.{max_variables, max_constraints, max_budget}
use Rattle.model_problems.specs.Threshold.{next_value}
use Rattle.layout.specs.Rows.{number_in, max_rows}
use Rattle.state.specs.View.{kept_cuts, decision_reason, flipped_reason}
use Rattle.state.specs.declared.Level.{Level}
use Rattle.propagate.specs.Tracked.{ScanFits, Tracked, Told}
use Rattle.backtrack.specs.Saved.{Roomy, SavedAt, Saved}

-- ---- a decision at variable i
-- the level at `depth` can be saved
pub record Savable (m depth : ℕ) (activities reaches olds limits : List ℤ) (gones counts : List ℕ) : Type 0 where
  pub inputs : m ≤ max_constraints
  pub deep : depth ≤ max_variables
  pub activities_long : length activities ≡ max_rows
  pub reaches_long : length reaches ≡ max_rows
  pub room : Roomy olds limits gones counts

pub record Decidable (n m made : ℕ) (rows lower upper : List ℤ) (i depth : ℕ) (activities reaches olds limits : List ℤ) (gones counts : List ℕ) : Type 0 where
  pub inputs : m ≤ max_constraints
  pub fits : ScanFits n (m + kept_cuts made) rows lower upper
  pub lowers : length lower ≡ max_variables
  pub uppers : length upper ≡ max_variables
  pub tracked : Tracked n rows lower upper activities reaches (m + kept_cuts made)
  pub variable : i < n
  pub deep : depth ≤ max_variables
  pub room : Roomy olds limits gones counts

-- the level of the decision; r tells the first constraint that it falsifies
pub record Decided (n m made : ℕ) (rows lower upper : List ℤ) (above : List ℕ) (i depth : ℕ) (upper₁ : List ℤ) (above₁ : List ℕ) (activities reaches : List ℤ) (r : ℕ) : Type 0 where
  pub bound : upper₁ ≡ set upper i (number_in lower i)
  pub why : above₁ ≡ set above i decision_reason
  pub told : Told n rows lower upper₁ activities reaches (m + kept_cuts made) r

-- the level that the decision leaves, of these bounds
pub record LevelSaved (n m made : ℕ) (rows lower upper : List ℤ) (depth : ℕ) (olds limits : List ℤ) (gones counts : List ℕ) (olds₁ limits₁ : List ℤ) (gones₁ counts₁ : List ℕ) : Type 0 where
  pub room : Roomy olds₁ limits₁ gones₁ counts₁
  pub saved : (levels : List Level) (here : Level) → here.lower ≡ lower → here.upper ≡ upper → depth < length levels → Saved n m made rows levels olds limits gones counts depth →
      Saved n m made rows (set levels depth here) olds₁ limits₁ gones₁ counts₁ (depth + 1)

-- ---- back at the level at `depth`, with its decision at variable i flipped: its lower bound goes on to the next value
abbrev pub next_in : List ℤ → List ℤ → ℕ → ℤ
next_in thresholds lower i = next_value (number_in thresholds i) (number_in lower i)

pub record Flippable (n m made : ℕ) (thresholds rows lower upper : List ℤ) (i depth : ℕ) (olds limits : List ℤ) (gones counts : List ℕ) : Type 0 where
  pub inputs : m ≤ max_constraints
  pub cuts : made ≤ max_budget
  pub fits : ScanFits n (m + kept_cuts made) rows lower upper
  pub next : ScanFits n (m + kept_cuts made) rows (set lower i (next_in thresholds lower i)) upper
  pub lowers : length lower ≡ max_variables
  pub uppers : length upper ≡ max_variables
  pub variable : i < n
  pub deep : depth ≤ max_variables
  pub room : Roomy olds limits gones counts
  pub saved : SavedAt n m made rows lower upper olds limits (get_or gones depth 0) (get_or counts depth 0) depth

pub record Flipped (n m made : ℕ) (thresholds rows lower upper : List ℤ) (below : List ℕ) (i : ℕ) (lower₁ : List ℤ) (below₁ : List ℕ) (activities reaches : List ℤ) (r : ℕ) : Type 0 where
  pub bound : lower₁ ≡ set lower i (next_in thresholds lower i)
  pub why : below₁ ≡ set below i flipped_reason
  pub told : Told n rows lower₁ upper activities reaches (m + kept_cuts made) r
