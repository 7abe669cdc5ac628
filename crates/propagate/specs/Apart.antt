-- The divisor constraints of a search, apart from the inequalities. `lines` holds the rows of the inputs; among the rows that the other scans read, those
-- with a divisor are blank.
use Rattle.std.specs.Prelude.{ℕ, ◌≤◌, ◌<◌, true, false, List, ◌++◌, ◌≡◌, ℤ, pos, get_or, length, replicate}
use Rattle.model_problems.specs.Lists.{tab}
use Rattle.model_problems.specs.Ranges.{max_constraints}
use Rattle.model_problems.specs.Constraint.{Constraint, falsified, in_range}
use Rattle.model_files.specs.File.{no_constraint}
use Rattle.model_walk.specs.Search.{Level, Core}
use Rattle.linear.specs.Ranges.{DivisorFits}
use Rattle.layout.specs.Rows.{number_in, row_at, input_at, box_of, rows_length, thresholds_of}
use Rattle.state.specs.View.{kept_cuts, core_over}
use Rattle.propagate.specs.Tracked.{Tracked}

-- the kept constraints: the inputs with their divisors, and the cuts
abbrev pub kept_over : ℕ → ℕ → ℕ → List ℤ → List ℤ → List ℤ → List Constraint
kept_over n m made rows lines divisors = tab (input_at n lines divisors) 0 m ++ tab (row_at n rows) m (kept_cuts made)

-- the core that they belong to
abbrev pub core_apart : List ℤ → ℕ → ℕ → ℕ → List ℤ → List ℤ → List ℤ → List ℕ → Level → List Level → Core
core_apart ts n m made rows lines divisors numbers deepest outer = core_over (thresholds_of n ts) (tab (input_at n lines divisors) 0 m) n m made rows numbers deepest outer

-- 0 ≤ 0
abbrev pub blank_row : ℕ → Constraint
blank_row n = record { constant = pos 0; coefficients = replicate n (pos 0); divisor = pos 0 }

-- the inputs' lines and divisors, and the rows with blanks
pub record Apart (n m : ℕ) (rows lines divisors : List ℤ) : Type 0 where
  pub lines_long : length lines ≡ rows_length
  pub divisors_long : length divisors ≡ max_constraints
  pub range : (j : ℕ) → j < m → in_range (row_at n lines j) ≡ true
  pub fits : (j : ℕ) → j < m → DivisorFits (number_in divisors j)
  pub same : (j : ℕ) → j < m → number_in divisors j ≡ pos 0 → row_at n rows j ≡ row_at n lines j
  pub blank : (j : ℕ) → j < m → (number_in divisors j ≡ pos 0 → ⊥) → row_at n rows j ≡ blank_row n

-- ---- the first of the kept constraints ks, of either sort, that the box falsifies stands at position r; r is `kept` where there is none, and then every row
-- is tracked
pub record Warned (ks : List Constraint) (n : ℕ) (rows lower upper activities reaches : List ℤ) (kept r : ℕ) : Type 0 where
  pub lengths : Tracked n rows lower upper activities reaches 0
  pub most : r ≤ kept
  pub before : (j : ℕ) → j < r → falsified (get_or ks j no_constraint) (box_of n lower upper) ≡ false
  pub here : r < kept → falsified (get_or ks r no_constraint) (box_of n lower upper) ≡ true
  pub tracked : r ≡ kept → Tracked n rows lower upper activities reaches kept
