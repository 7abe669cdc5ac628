-- What the scans ask, and what is kept of each constraint as bounds change: its minimum activity, and a number that is at least what any variable can
-- move it.
use Rattle.std.specs.Prelude.{ℕ, ◌*◌, ◌≤◌, ◌<◌, List, ◌≡◌, T, ℤ, pos, ◌+ℤ◌, length, ◌≤ℤ◌, ◌<ℤ◌}
use Rattle.model_problems.specs.Lists.{tab, all_of}
use Rattle.model_problems.specs.Ranges.{max_variables, max_coefficient}
use Rattle.model_problems.specs.Constraint.{in_range, term, activity}
use Rattle.model_problems.specs.Problem.{bounds_in_range}
use Rattle.integer.specs.Size.{Within}
use Rattle.linear.specs.Ranges.{widest_activity, widest_change}
use Rattle.linear.specs.Reach.{Reaches}
use Rattle.layout.specs.Rows.{row_length, number_in, cell, row_at, box_of, max_rows, rows_length}

-- `kept` constraints and a box, of n variables
pub record ScanFits (n kept : ℕ) (rows lower upper : List ℤ) : Type 0 where
  pub few : n ≤ max_variables
  pub count : kept ≤ max_rows
  pub constraints : T (all_of in_range (tab (row_at n rows) 0 kept))
  pub bounds : T (all_of bounds_in_range (box_of n lower upper))

-- a is the minimum activity of constraint j, and it reaches no further than r
pub record Known (n : ℕ) (rows lower upper : List ℤ) (j : ℕ) (a r : ℤ) : Type 0 where
  pub same : a ≡ activity (row_at n rows j) (box_of n lower upper)
  pub size : Within widest_activity a
  pub reach : Reaches n rows (row_length * j) lower upper r

abbrev pub TrackedAt : ℕ → List ℤ → List ℤ → List ℤ → List ℤ → List ℤ → ℕ → Type 0
TrackedAt n rows lower upper activities reaches j = Known n rows lower upper j (number_in activities j) (number_in reaches j)

-- the constraints before position `count`
pub record Tracked (n : ℕ) (rows lower upper activities reaches : List ℤ) (count : ℕ) : Type 0 where
  pub long : length rows ≡ rows_length
  pub room : length activities ≡ max_rows
  pub reach_room : length reaches ≡ max_rows
  pub at : (j : ℕ) → j < count → TrackedAt n rows lower upper activities reaches j

-- the lower bound of variable i changes by `rise`, and the upper one by `fall`
pub record Shiftable (kept i : ℕ) (rise fall : ℤ) (rows activities : List ℤ) : Type 0 where
  pub count : kept ≤ max_rows
  pub variable : i < max_variables
  pub coefficients : (j : ℕ) → j < kept → Within max_coefficient (cell rows (row_length * j) i)
  pub sizes : (j : ℕ) → j < kept → Within widest_activity (number_in activities j)
  pub up : Within widest_change rise
  pub down : Within widest_change fall
  pub room : length activities ≡ max_rows

-- up to the first activity that is above 0 now, at place r; r is `kept` where none is
pub record Shifted (kept i : ℕ) (rise fall : ℤ) (rows old new : List ℤ) (r : ℕ) : Type 0 where
  pub room : length new ≡ max_rows
  pub most : r ≤ kept
  pub at : (j : ℕ) → j < r → number_in new j ≡ number_in old j +ℤ term (cell rows (row_length * j) i) (record { lower = rise; upper = fall })
  pub low : (j : ℕ) → j < r → number_in new j ≤ℤ pos 0
  pub here : r < kept → pos 0 <ℤ (number_in old r +ℤ term (cell rows (row_length * r) i) (record { lower = rise; upper = fall }))

-- the first of `count` numbers that is above 0 stands at place p; p is `count` where none is
pub record FirstAbove (count : ℕ) (xs : List ℤ) (p : ℕ) : Type 0 where
  pub most : p ≤ count
  pub before : (k : ℕ) → k < p → number_in xs k ≤ℤ pos 0
  pub here : p < count → pos 0 <ℤ number_in xs p

-- the first constraint that the box falsifies stands at position r; r is `kept` where there is none, and then every constraint is tracked
pub record Told (n : ℕ) (rows lower upper activities reaches : List ℤ) (kept r : ℕ) : Type 0 where
  pub lengths : Tracked n rows lower upper activities reaches 0
  pub most : r ≤ kept
  pub before : (j : ℕ) → j < r → activity (row_at n rows j) (box_of n lower upper) ≤ℤ pos 0
  pub here : r < kept → pos 0 <ℤ activity (row_at n rows r) (box_of n lower upper)
  pub tracked : r ≡ kept → Tracked n rows lower upper activities reaches kept
