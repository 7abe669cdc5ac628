-- The solutions that a search strikes out on its way.
use Rattle.std.specs.Prelude.{ℕ, ◌+◌, ◌*◌, Bool, ◌||◌, List, ◌++◌, ◌≡◌, eqb, ltb, ℤ, take, drop}
use Rattle.model_problems.specs.Ranges.{max_propagations}
use Rattle.model_problems.specs.Lists.{tab}
use Rattle.layout.specs.Rows.{number_in}

-- a solution at this depth is not struck out: no decision led to it, there is no room, or N5's count passed its limit
abbrev pub last_of : ℕ → ℕ → ℕ → ℕ → Bool
last_of depth struck room propagations = eqb depth 0 || (eqb struck room || ltb max_propagations propagations)

-- the values of a solution after those of `struck` others; all else stays
abbrev pub ValuesPut : ℕ → ℕ → List ℤ → List ℤ → List ℤ → Type 0
ValuesPut n struck values before after = after ≡ take (n * struck) before ++ (tab (number_in values) 0 n ++ drop (n * struck + n) before)
