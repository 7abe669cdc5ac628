-- A cut among the kept constraints: where one equals it, and the arrays after it was kept.
use Rattle.std.specs.Prelude.{ℕ, ◌+◌, ◌*◌, ◌-◌, ◌≤◌, ◌<◌, Option, None, Some, min, List, [], ◌∷◌, ◌++◌, ◌≡◌, ℤ, get_or, length}
use Rattle.std.proofs.Math.Option as model
use Rattle.model_problems.specs.Lists.{tab}
use Rattle.model_problems.specs.Ranges.{max_variables, max_cuts}
use Rattle.model_walk.specs.Search.{newest}
use Rattle.layout.specs.Rows.{constraint_at, row_at}
use Rattle.state.specs.View.{kept_cuts, stored_number}

-- a position, or none, as the model has it
unfoldable pub found_at : Option ℕ → model.Option ℕ
found_at None = model.none
found_at (Some j) = model.some j

-- the newest of all the cuts that can be kept, counted from 0
abbrev pub last_cut : ℕ
last_cut = max_cuts - 1

-- the item stands in the first free place, or where none is free in the last one, once the others moved down over the oldest
pub record NewestKept {A : Type 0} (made : ℕ) (item before after : List A) : Type 0 where
  pub size : length after ≡ length before
  pub here : (k : ℕ) (d : A) → k < length item → get_or after (length item * min made last_cut + k) d ≡ get_or item k d
  pub stay : made < max_cuts → (k : ℕ) (d : A) → k < length item * made → get_or after k d ≡ get_or before k d
  pub move : max_cuts ≤ made → (k : ℕ) (d : A) → k < length item * last_cut → get_or after k d ≡ get_or before (length item + k) d

-- the inputs stay, and the cut is the newest of the kept ones
pub record RowKept (m made : ℕ) (rows cut after : List ℤ) : Type 0 where
  pub size : length after ≡ length rows
  pub inputs : (n : ℕ) → n ≤ max_variables → tab (row_at n after) 0 m ≡ tab (row_at n rows) 0 m
  pub cuts : (n : ℕ) → n ≤ max_variables → tab (row_at n after) m (kept_cuts (made + 1)) ≡ newest (tab (row_at n rows) m (kept_cuts made) ++ (constraint_at n cut 0 ∷ []))

-- and its number is the last of theirs
pub record NumberKept (made number : ℕ) (numbers after : List ℕ) : Type 0 where
  pub size : length after ≡ length numbers
  pub kept : tab (stored_number after) 0 (kept_cuts (made + 1)) ≡ newest (tab (stored_number numbers) 0 (kept_cuts made) ++ (number ∷ []))
