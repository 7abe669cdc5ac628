-- The kept constraints whose numbers and divisors are in range: what the test of one asks.
use Prim.Native.Nat.{ℕ, ◌*◌, ◌<◌, ◌≤◌}
use native.Mathlib.Omega.{arith}
use mathlib.Core.Bool.{true}
use mathlib.Core.List.{List}
use mathlib.Core.Logic.{⊎_elim}
use mathlib.Core.Path.{◌≡◌}
use borrow.Author.Tests.{lt-ltb, le-ltb}
use lib.IntN.{ℤ}
use lib.ListN.{length}
use Rattle.model_problems.specs.Lists.{tab, all_of}
use Rattle.model_problems.specs.Ranges.{max_variables, max_cuts}
use Rattle.model_problems.specs.Constraint.{in_range, divisor_in_range}
use Rattle.layout.specs.Rows.{row_length, number_in, row_at, divided_at, input_at}
use Rattle.linear.specs.Ranges.{RowFits, DivisorFits}
use Rattle.linear.proofs.Ranges.{row_fits, divisor-fits}
use Rattle.lists.proofs.Bools.{lt-or-le}
use Rattle.lists.proofs.Loops.{every-at}
use Rattle.state.specs.View.{kept_cuts, divisor_for}

pub few_kept : (made : ℕ) → kept_cuts made ≤ max_cuts
unfolding kept_cuts
few_kept made = omega arith

module _ (n : ℕ) (rows : List ℤ) where
  pub row-passed : (count j : ℕ) → n ≤ max_variables → row_length * count ≤ length rows → all_of in_range (tab (row_at n rows) 0 count) ≡ true → j < count →
      RowFits n rows (row_length * j)
  unfolding row_at
  row-passed count j few room a l = row_fits n rows (row_length * j) few (omega arith) (every-at in_range (row_at n rows) count j a l)

module _ (n m : ℕ) (rows divisors : List ℤ) where
  pub divisor-passed : (j : ℕ) (q : ℤ) → all_of divisor_in_range (tab (input_at n rows divisors) 0 m) ≡ true → q ≡ divisor_for m divisors j → DivisorFits q
  unfolding divisor_for divisor_in_range input_at divided_at
  divisor-passed j q a e =
      rw e
      (⊎_elim
      (λ (l : j < m). rw (lt-ltb j m l) (divisor-fits (number_in divisors j) (every-at divisor_in_range (input_at n rows divisors) m j a l)))
      (λ (l : m ≤ j). rw (le-ltb j m l) (omega arith))
      (lt-or-le j m))
