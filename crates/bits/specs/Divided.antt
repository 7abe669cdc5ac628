-- The divisor constraints of a search: which they are, and the first that bounds falsify. `lines` holds the rows of the inputs.
use Rattle.std.specs.Prelude.{ℕ, ◌*◌, ◌≤◌, ◌<◌, ◌^◌, true, false, List, ◌⊎◌, ◌≡◌, ℤ, pos, get_or, length}
use Rattle.model_problems.specs.Ranges.{max_variables, max_constraints}
use Rattle.model_problems.specs.Constraint.{falsified, in_range}
use Rattle.linear.specs.Ranges.{BoxFits, DivisorFits}
use Rattle.layout.specs.Rows.{row_length, number_in, cell, row_at, input_at, box_of, rows_length}
use Rattle.bits.specs.Masks.{bit}
use Rattle.bits.specs.declared.divided.Divided.{Divided}

-- ---- masks of inputs: each that is left out carries no divisor, or is spared
pub record Due (m : ℕ) (divisors : List ℤ) (Spared : ℕ → Type 0) (mask : ℕ) : Type 0 where
  pub few : mask < 2 ^ m
  pub rest : (j : ℕ) → j < m → bit mask j ≡ 0 → (number_in divisors j ≡ pos 0) ⊎ Spared j

-- no constraint is spared
abbrev pub Everyone : ℕ → Type 0
Everyone j = ⊥

-- those that do not mention variable i are
abbrev pub Unmentioned : List ℤ → ℕ → ℕ → Type 0
Unmentioned lines i j = cell lines (row_length * j) i ≡ pos 0

pub record Columns (n m : ℕ) (lines divisors : List ℤ) (columns : List ℕ) : Type 0 where
  pub long : length columns ≡ max_variables
  pub at : (i : ℕ) → i < n → Due m divisors (Unmentioned lines i) (get_or columns i 0)

-- the inputs set apart, with the masks of those that carry a divisor
pub record SetApart (n m : ℕ) (lines divisors : List ℤ) (d : Divided) : Type 0 where
  pub given : d.lines ≡ lines
  pub carried : d.divisors ≡ divisors
  pub all : Due m divisors Everyone d.all
  pub columns : Columns n m lines divisors d.columns

-- ---- the first of a mask that these bounds falsify
pub record Testable (n m : ℕ) (lines divisors lower upper : List ℤ) (mask : ℕ) : Type 0 where
  pub few : n ≤ max_variables
  pub most : m ≤ max_constraints
  pub lines_long : length lines ≡ rows_length
  pub divisors_long : length divisors ≡ max_constraints
  pub range : (j : ℕ) → j < m → in_range (row_at n lines j) ≡ true
  pub fits : (j : ℕ) → j < m → DivisorFits (number_in divisors j)
  pub box : BoxFits n lower upper
  pub inside : mask < 2 ^ m

pub record FirstIndivisible (n m : ℕ) (lines divisors lower upper : List ℤ) (mask limit r : ℕ) : Type 0 where
  pub most : r ≤ limit
  pub before : (j : ℕ) → j < r → (bit mask j ≡ 0) ⊎ (falsified (input_at n lines divisors j) (box_of n lower upper) ≡ false)
  pub here : r < limit → (r < m) × (falsified (input_at n lines divisors r) (box_of n lower upper) ≡ true)
