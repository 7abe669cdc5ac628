-- The rows of the divisor constraints, blanked when a call starts and put back when it ends: the kept constraints stay what they are.
use Prim.Native.Nat.{ℕ, ◌+◌, ◌*◌, ◌≤◌, ◌<◌}
use native.Mathlib.Omega.{arith}
use mathlib.Core.Bool.{true}
use mathlib.Core.List.{List}
use mathlib.Core.Logic.{⊎_elim}
use mathlib.Core.Path.{◌≡◌, ap, ap₂, ◌∙◌}
use lib.IntN.{ℤ, pos}
use lib.ListN.{length, replicate}
use Rattle.model_problems.specs.Lists.{tab, all_of}
use Rattle.model_problems.specs.Ranges.{max_constraints}
use Rattle.model_problems.specs.Constraint.{Constraint, in_range, divisor_in_range}
use Rattle.model_files.specs.File.{no_constraint}
use Rattle.model_walk.specs.Search as model
use Rattle.lists.proofs.Bools.{true_of}
use Rattle.lists.proofs.Tab.{length-tab, get_d-tab, get_d-const, tab-ext, tab-ext-0, tab-const}
use Rattle.lists.proofs.AllOf.{all_of-get_d}
use Rattle.layout.specs.Rows.{row_length, number_in, cell, constraint_at, row_at, divided_at, input_at, rows_length}
use Rattle.linear.proofs.Ranges.{divisor-fits}
use Rattle.validity.proofs.Every.{every-out}
use Rattle.validity.proofs.States.{ConstraintFits, CoreFits}
use Rattle.state.specs.View.{kept_cuts, core_over}
use Rattle.propagate.specs.Apart.{kept_over, core_apart, blank_row, Apart}
use Rattle.propagate.proofs.Warning.{zero_or, length_over, over-input}
use Rattle.turns.specs.Setting.{RowsPut}

-- the same row, with the same divisor
input-same : (n : ℕ) (a b divisors : List ℤ) (j : ℕ) → row_at n a j ≡ row_at n b j → input_at n a divisors j ≡ input_at n b divisors j
unfolding row_at constraint_at input_at divided_at
input-same n a b divisors j e = ap (λ (k : Constraint). record { constant = k.constant; coefficients = k.coefficients; divisor = number_in divisors j }) e

module _ (n m made : ℕ) (divisors from before after : List ℤ) (p : RowsPut n m divisors from before after) (few : m ≤ max_constraints) where
  -- the cuts stay
  pub cuts-put : tab (row_at n after) m (kept_cuts made) ≡ tab (row_at n before) m (kept_cuts made)
  unfolding kept_cuts
  cuts-put = tab-ext (row_at n after) (row_at n before) m (kept_cuts made) (λ j h l. p.kept j (omega arith) (λ i. absurd (omega arith)))

-- ---- put back: the inputs are what they were
module _ (n m : ℕ) (rows lines divisors after : List ℤ) (a : Apart n m rows lines divisors) (p : RowsPut n m divisors lines rows after) (few : m ≤ max_constraints) where
  row-restored : (j : ℕ) → j < m → row_at n after j ≡ row_at n lines j
  row-restored j h = ⊎_elim (λ e. p.kept j (omega arith) (λ i. e) ∙ a.same j h e) (λ d. p.put j h d) (zero_or (number_in divisors j))

  pub inputs-restored : tab (input_at n after divisors) 0 m ≡ tab (input_at n lines divisors) 0 m
  inputs-restored = tab-ext-0 (input_at n after divisors) (input_at n lines divisors) m (λ j h. input-same n after lines divisors j (row-restored j h))

-- ---- blanked
zero_row : (n j : ℕ) → row_at n (replicate rows_length (pos 0)) j ≡ blank_row n
unfolding row_at constraint_at number_in
zero_row n j =
    ap₂ (λ (z : ℤ) (cs : List ℤ). record { constant = z; coefficients = cs; divisor = pos 0 }) (get_d-const (pos 0) rows_length (row_length * j))
    (tab-ext-0 (cell (replicate rows_length (pos 0)) (row_length * j)) (λ (k : ℕ). pos 0) n (λ k h. unfold cell number_in in get_d-const (pos 0) rows_length (row_length * j + 1 + k)) ∙ tab-const (pos 0) 0 n)

module _ (thresholds : List ℤ) (n m : ℕ) (lines divisors rows : List ℤ) (p : RowsPut n m divisors (replicate rows_length (pos 0)) lines rows) (few : m ≤ max_constraints) (ll : length lines ≡ rows_length) (dl : length divisors ≡ max_constraints)
    (made : ℕ) (numbers : List ℕ) (l : model.Level) (ls : List model.Level) (f : CoreFits (core_apart thresholds n m made lines lines divisors numbers l ls)) where
  line-range : (j : ℕ) → j < m → in_range (row_at n lines j) ≡ true
  unfolding core_over model.kept
  line-range j h =
      let c = core_apart thresholds n m made lines lines divisors numbers l ls in
      let t : all_of in_range (kept_over n m made lines lines divisors) ≡ true = true_of _ (every-out (ConstraintFits n) in_range (λ k q. q.range) (model.kept c) f.constraints) in
      let r = rw (over-input n m made lines lines divisors j h) at (all_of-get_d in_range (kept_over n m made lines lines divisors) j no_constraint t (omega (arith, length_over n m made lines lines divisors))) in
      unfold in_range input_at divided_at row_at constraint_at in r

  divisor_range : (j : ℕ) → j < m → divisor_in_range (input_at n lines divisors j) ≡ true
  unfolding core_over
  divisor_range j h =
      rw (get_d-tab (input_at n lines divisors) m j no_constraint h) at
      (all_of-get_d divisor_in_range (tab (input_at n lines divisors) 0 m) j no_constraint (true_of _ f.divisors) (omega (arith, length-tab (input_at n lines divisors) 0 m)))

  pub apart-starts : Apart n m rows lines divisors
  apart-starts =
      record {
        lines_long = ll;
        divisors_long = dl;
        range = line-range;
        fits = λ j h. divisor-fits (number_in divisors j) (unfold divisor_in_range input_at divided_at in divisor_range j h);
        same = λ j h e. p.kept j (omega arith) (λ i. e);
        blank = λ j h d. p.put j h d ∙ zero_row n j;
      }
