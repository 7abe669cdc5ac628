-- The masks of the kept constraints, made when a call starts.
use Rattle.std.specs.Prelude.{ℕ, ◌+◌, ◌*◌, ◌≤◌, ◌<◌, List, ◌≡◌, ℤ, get_or, length}
use Rattle.model_problems.specs.Ranges.{max_variables, max_cuts}
use Rattle.layout.specs.Rows.{row_length, max_rows, rows_length}
use Rattle.bits.specs.Masks.{Mentions}

-- `count` constraints from row `from` on
pub record Markable (n from count : ℕ) (rows : List ℤ) : Type 0 where
  pub few : n ≤ max_variables
  pub most : count ≤ max_cuts
  pub inside : from + count ≤ max_rows
  pub long : length rows ≡ rows_length

pub record Marks (n from count : ℕ) (rows : List ℤ) (masks : List ℕ) : Type 0 where
  pub room : length masks ≡ max_cuts
  pub at : (p : ℕ) → p < count → Mentions n rows (row_length * (from + p)) (get_or masks p 0)
