-- The ranges in which the line arithmetic does not overflow. `proofs/Ranges` derives them from the model's own tests.
use Rattle.std.specs.Prelude.{ℕ, ◌+◌, ◌*◌, ◌≤◌, ◌<◌, ◌^◌, List, ℤ, pos, nat_abs, length, ◌≤ℤ◌}
use Rattle.model_problems.specs.Ranges.{max_variables, max_coefficient, max_divisor}
use Rattle.integer.specs.Size.{Within}
use Rattle.layout.specs.Rows.{number_in, cell}

-- bounds: the crate's own number, at least the model's max_bound, so that a smaller limit changes nothing here
abbrev pub widest_bound : ℕ
widest_bound = 2 ^ 24

-- what a bound changes by, from one end to the other
abbrev pub widest_change : ℕ
widest_change = 2 * widest_bound

-- coefficient · bound
abbrev pub widest_term : ℕ
widest_term = max_coefficient * widest_bound

-- the constant and a term for each variable: 2^30 + 2^59
abbrev pub widest_activity : ℕ
widest_activity = max_coefficient + max_variables * widest_term

-- the activity without one variable's term
abbrev pub widest_rest : ℕ
widest_rest = widest_activity + widest_term

-- a coefficient and the bounds of its variable
pub record TermFits (a lower upper : ℤ) : Type 0 where
  pub coefficient : Within max_coefficient a
  pub low : Within widest_bound lower
  pub high : Within widest_bound upper

-- a coefficient, and the bounds of its variable or what they change by
pub record ChangeFits (a rise fall : ℤ) : Type 0 where
  pub coefficient : Within max_coefficient a
  pub up : Within widest_change rise
  pub down : Within widest_change fall

-- the row of n variables at `start` lies inside the array, and its numbers are in range
pub record RowFits (n : ℕ) (rows : List ℤ) (start : ℕ) : Type 0 where
  pub few : n ≤ max_variables
  pub inside : start + n < length rows
  pub constant : Within max_coefficient (number_in rows start)
  pub coefficients : (i : ℕ) → i < n → Within max_coefficient (cell rows start i)

-- the bounds of n variables lie inside the two arrays, and are in range
pub record BoxFits (n : ℕ) (lower upper : List ℤ) : Type 0 where
  pub lowers : n ≤ length lower
  pub uppers : n ≤ length upper
  pub low : (i : ℕ) → i < n → Within widest_bound (number_in lower i)
  pub high : (i : ℕ) → i < n → Within widest_bound (number_in upper i)

-- a divisor in range: none, or one that a problem may have
abbrev pub DivisorFits : ℤ → Type 0
DivisorFits q = nat_abs q ≤ max_divisor

-- the activity without a variable, and the variable's coefficient
pub record ImpliedFits (p a : ℤ) : Type 0 where
  pub rest : Within widest_rest p
  pub coefficient : Within max_coefficient a

-- a coefficient, the bounds of its variable, and the minimum activity of its constraint, which is not falsified
pub record ImprovementFits (a lower upper activity : ℤ) : Type 0 where
  pub term : TermFits a lower upper
  pub sum : Within widest_activity activity
  pub holds : activity ≤ℤ pos 0
