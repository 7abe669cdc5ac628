-- A constraint put in a place of a problem's arrays.
use Rattle.std.specs.Prelude.{ℕ, List, ◌≢◌, ◌≡◌, ℤ}
use Rattle.layout.specs.Rows.{divided_at, input_at}
use Rattle.problem.specs.declared.Problem.{Problem}

-- the problem with m constraints, in these arrays
abbrev pub with_rows : Problem → ℕ → List ℤ → List ℤ → Problem
with_rows p m rows divisors =
    record { n = p.n; m = m; budget = p.budget; lower = p.lower; upper = p.upper; constraints = rows; divisors = divisors; thresholds = p.thresholds }

-- place j holds the row with its divisor, and all else stays
pub record Stored (before : Problem) (j : ℕ) (row : List ℤ) (divisor : ℤ) (after : Problem) : Type 0 where
  pub stays : after ≡ with_rows before before.m after.constraints after.divisors
  pub here : input_at before.n after.constraints after.divisors j ≡ divided_at before.n row 0 divisor
  pub others : (k : ℕ) → k ≢ j → input_at before.n after.constraints after.divisors k ≡ input_at before.n before.constraints before.divisors k
