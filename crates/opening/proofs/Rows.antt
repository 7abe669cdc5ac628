-- Constraints that are rounded and put into the rows one after the other.
use Prim.Native.Nat.{ℕ, zero, suc, ◌+◌, ◌*◌, ◌≤◌, ◌<◌}
use native.Mathlib.Omega.{arith}
use mathlib.Core.Bool.{true}
use mathlib.Core.List.{List, map}
use mathlib.Core.Path.{◌≡◌, refl, sym, ap, ◌∙◌}
use borrow.Author.Count.{below_more}
use lib.IntN.{ℤ, pos, negsuc, nat_abs}
use lib.ListN.{length}
use Rattle.model_problems.specs.Lists.{tab}
use Rattle.model_problems.specs.Ranges.{max_variables}
use Rattle.model_problems.specs.Constraint.{Constraint, modulus, in_range, rounded_as, rounded}
use Rattle.model_problems.specs.Problem.{constraints_in_range}
use Rattle.integer.specs.Size.{weaken}
use Rattle.lists.proofs.Bools.{true_of}
use Rattle.lists.proofs.Tab.{tab-ext-0, tab-map}
use Rattle.lists.proofs.Loops.{every-at}
use Rattle.layout.specs.Rows.{row_length, number_in, constraint_at, divided_at, row_at, input_at, rows_length}
use Rattle.layout.specs.Copies.{Placed}
use Rattle.layout.proofs.Placing.{placed-here, placed-before}
use Rattle.layout.proofs.Ranges.{inputs-range}
use Rattle.derivation.specs.Sized.{max_combined, Sized}
use Rattle.derivation.proofs.Sizes.{range-sized}
use Rattle.problem.specs.declared.Problem.{Problem}
use Rattle.problem.specs.View.{problem_of}
use Rattle.opening.specs.Accepted.{Accepted}
use Rattle.opening.specs.Rounded.{RowsRounded}

-- ---- a constraint with its divisor
-- equal rows give equal inputs
input-same : (n : ℕ) (a b divisors : List ℤ) (j : ℕ) → row_at n a j ≡ row_at n b j → input_at n a divisors j ≡ input_at n b divisors j
unfolding row_at constraint_at input_at divided_at
input-same n a b divisors j e = ap (λ (k : Constraint). record { constant = k.constant; coefficients = k.coefficients; divisor = number_in divisors j }) e

-- one without a divisor is its row
input-row : (n : ℕ) (rows divisors : List ℤ) (j : ℕ) → number_in divisors j ≡ pos 0 → input_at n rows divisors j ≡ row_at n rows j
unfolding row_at constraint_at input_at divided_at
input-row n rows divisors j e = rw e

-- one with a divisor stays
stays-as : (k : Constraint) (q : ℤ) → (q ≡ pos 0 → ⊥) → rounded_as (nat_abs q) k ≡ k
unfolding rounded_as
stays-as k (pos zero) h = absurd (h refl)
stays-as k (pos (suc q)) h = refl
stays-as k (negsuc q) h = refl

input-stays : (n : ℕ) (rows divisors : List ℤ) (j : ℕ) → (number_in divisors j ≡ pos 0 → ⊥) → rounded (input_at n rows divisors j) ≡ input_at n rows divisors j
unfolding rounded modulus input_at divided_at
input-stays n rows divisors j h = stays-as (input_at n rows divisors j) (number_in divisors j) h

-- ---- one more is rounded
module _ (n : ℕ) (few : n ≤ max_variables) (row before after : List ℤ) (j : ℕ) (p : Placed (row_length * j) row_length row before after)
    (constraints divisors : List ℤ) (h : RowsRounded n constraints divisors j before) where
  next : input_at n after divisors j ≡ rounded (input_at n constraints divisors j) → RowsRounded n constraints divisors (j + 1) after
  next e =
      record {
        size = p.size ∙ h.size;
        row = below_more (λ i. input_at n after divisors i ≡ rounded (input_at n constraints divisors i)) j
            (λ i l. input-same n after before divisors i (placed-before n few row before after j p i l) ∙ h.row i l)
            e;
      }

  pub round-more : number_in divisors j ≡ pos 0 → constraint_at n row 0 ≡ rounded (row_at n constraints j) → RowsRounded n constraints divisors (j + 1) after
  round-more z e =
      next (input-row n after divisors j z ∙ placed-here n few row before after j p ∙ e ∙ ap rounded (sym (input-row n constraints divisors j z)))

  pub copy_more : (number_in divisors j ≡ pos 0 → ⊥) → constraint_at n row 0 ≡ row_at n constraints j → RowsRounded n constraints divisors (j + 1) after
  copy_more z e =
      next (input-same n after constraints divisors j (placed-here n few row before after j p ∙ e) ∙ sym (input-stays n constraints divisors j z))

pub round-none : (n : ℕ) (constraints divisors rows : List ℤ) → length rows ≡ rows_length → RowsRounded n constraints divisors 0 rows
round-none n constraints divisors rows e = record { size = e; row = λ j l. absurd (omega arith) }

-- ---- what rounding asks
pub may-round : (n j : ℕ) (constraints row : List ℤ) → in_range (row_at n constraints j) ≡ true → constraint_at n row 0 ≡ row_at n constraints j → Sized max_combined (constraint_at n row 0)
may-round n j constraints row e same =
    let h = range-sized (row_at n constraints j) e in
    rw same (record { constant = weaken (omega arith) h.constant; coefficient = λ i. weaken (omega arith) (h.coefficient i) })

-- ---- the constraints of an accepted problem
module _ (p : Problem) where
  pub row-in-range : (j : ℕ) → Accepted p → j < p.m → in_range (row_at p.n p.constraints j) ≡ true
  unfolding constraints_in_range problem_of
  row-in-range j a l =
      every-at in_range (row_at p.n p.constraints) p.m j (sym (inputs-range p.n p.constraints p.divisors 0 p.m) ∙ true_of _ a.coefficient-range) l

  pub all-rounded : (rows : List ℤ) → RowsRounded p.n p.constraints p.divisors p.m rows →
      tab (input_at p.n rows p.divisors) 0 p.m ≡ map rounded (problem_of p).constraints
  unfolding problem_of
  all-rounded rows h =
      let input = input_at p.n p.constraints p.divisors in
      tab-ext-0 (input_at p.n rows p.divisors) (λ j. rounded (input j)) p.m h.row ∙ sym (tab-map rounded input 0 p.m)
