-- A row put in place j, and the constraints that the rows then hold: the one in place j, and the others as they were.
use Prim.Native.Nat.{ℕ, ◌+◌, ◌*◌, ◌≤◌, ◌<◌}
use native.Mathlib.Omega.{arith}
use mathlib.Core.List.{List}
use mathlib.Core.Logic.{◌≢◌, ⊎_elim}
use mathlib.Core.Path.{◌≡◌, ap₂}
use lib.IntN.{ℤ, pos}
use lib.ListN.{set, length}
use lib.Seq.{get_or-set_same, get_or-set_other}
use Rattle.model_problems.specs.Ranges.{max_variables}
use Rattle.model_problems.specs.Constraint.{Constraint}
use Rattle.lists.proofs.Bools.{lt-or-le}
use Rattle.layout.specs.Rows.{row_length, number_in, constraint_at, divided_at, row_at, input_at}
use Rattle.layout.specs.Copies.{Placed}
use Rattle.layout.proofs.Rows.{row_same}
use Rattle.layout.proofs.Placing.{placed-here}

-- equal rows with equal divisors are equal constraints
pub divided-same : (n : ℕ) (a b : List ℤ) (s t : ℕ) {q r : ℤ} → constraint_at n a s ≡ constraint_at n b t → q ≡ r → divided_at n a s q ≡ divided_at n b t r
unfolding constraint_at divided_at
divided-same n a b s t e f = ap₂ (λ (k : Constraint) (z : ℤ). record { constant = k.constant; coefficients = k.coefficients; divisor = z }) e f

-- a row put in place j, and its divisor
module _ (n : ℕ) (few : n ≤ max_variables) (row before after : List ℤ) (j : ℕ) (p : Placed (row_length * j) row_length row before after)
    (divisors : List ℤ) (q : ℤ) where
  pub put-here : j < length divisors → input_at n after (set divisors j q) j ≡ divided_at n row 0 q
  unfolding input_at row_at number_in
  put-here l = divided-same n after row (row_length * j) 0 (placed-here n few row before after j p) (get_or-set_same divisors j q (pos 0) l)

  pub put-others : (k : ℕ) → k ≢ j → input_at n after (set divisors j q) k ≡ input_at n before divisors k
  unfolding input_at number_in
  put-others k d =
      divided-same n after before (row_length * k) (row_length * k)
      (row_same n after before (row_length * k) (row_length * k)
      (λ i l. ⊎_elim (λ h. p.below (row_length * k + i) (omega arith)) (λ h. p.above (row_length * k + i) (omega arith)) (lt-or-le k j)))
      (get_or-set_other divisors j k q (pos 0) d)
