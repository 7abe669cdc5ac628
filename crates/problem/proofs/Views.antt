-- The arrays of a problem say the problem, where they have room for it.
use Prim.Native.Nat.{ℕ, suc, ◌+◌, ◌*◌, ◌/◌, ◌%◌, ◌<◌, ◌≤◌}
use native.Mathlib.Omega.{arith}
use mathlib.Core.Bool.{true}
use mathlib.Core.Path.{◌≡◌, refl, sym, ap, ap₂, ◌∙◌}
use mathlib.Core.List.{List}
use lib.IntN.{ℤ, pos}
use lib.ListN.{get_or, length}
use borrow.Author.Tests.{eqb-true}
use Rattle.model_problems.specs.Constraint.{Constraint, Box, no_bounds, coefficient_at, lower_at, upper_at}
use Rattle.model_problems.specs.Threshold.{threshold_at}
use Rattle.model_files.specs.File.{no_constraint, problem_in, read_error}
use Rattle.model_problems.specs.Lists.{tab, all_of}
use Rattle.model_problems.specs.Problem as model
use Rattle.model_problems.specs.Problem.{variables}
use Rattle.model_problems.specs.Ranges.{max_variables, max_constraints}
use Rattle.model_walk.specs.Validity.{constraint_shaped}
use Rattle.lists.proofs.AllOf.{all_of-get_d}
use Rattle.lists.proofs.Bools.{true_of}
use Rattle.lists.proofs.Tab.{get_d-tab, tab-is}
use Rattle.format.proofs.AcceptedShape.{Sizes, sizes, tests, thresholds-in, problem-shaped}
use Rattle.layout.specs.Rows.{row_length, number_in, cell, divided_at, input_at, bounds_at, box_of, thresholds_of}
use Rattle.fields.specs.Fields.{room, cells, divisor_room, in_row}
use Rattle.problem.specs.View.{problem_of, in_rows, divisor_at, packed}

-- ---- the domain
module _ (box : Box) (few : length box ≤ room) where
  bounds-are : (i : ℕ) → i < length box → get_or box i no_bounds ≡ bounds_at (tab (lower_at box) 0 room) (tab (upper_at box) 0 room) i
  unfolding bounds_at number_in lower_at upper_at
  bounds-are i l =
      sym (ap₂ (λ (a b : ℤ). record { lower = a; upper = b })
      (get_d-tab (lower_at box) room i (pos 0) (omega arith)) (get_d-tab (upper_at box) room i (pos 0) (omega arith)))

  box-is : box_of (length box) (tab (lower_at box) 0 room) (tab (upper_at box) 0 room) ≡ box
  unfolding box_of
  box-is = tab-is box (length box) (bounds_at (tab (lower_at box) 0 room) (tab (upper_at box) 0 room)) no_bounds refl bounds-are

-- ---- the thresholds
thresholds-are : (ts : List ℤ) (n : ℕ) → length ts ≡ n → n ≤ room → thresholds_of n (tab (threshold_at ts) 0 room) ≡ ts
unfolding thresholds_of threshold_at number_in
thresholds-are ts n e few = tab-is ts n (number_in (tab (threshold_at ts) 0 room)) (pos 0) e (λ i l. sym (get_d-tab (threshold_at ts) room i (pos 0) (omega arith)))

-- ---- the constraints
module _ (ks : List Constraint) (j : ℕ) (h : j < max_constraints) where
  cell_at : (i : ℕ) → i < row_length → number_in (tab (in_rows ks) 0 cells) (row_length * j + i) ≡ in_row (get_or ks j no_constraint) i
  unfolding number_in in_rows
  cell_at i l =
      let d : (row_length * j + i) / row_length ≡ j = omega arith in
      let r : (row_length * j + i) % row_length ≡ i = omega arith in
      get_d-tab (in_rows ks) cells (row_length * j + i) (pos 0) (omega arith) ∙ rw (d, r)

  divisor-at : number_in (tab (divisor_at ks) 0 divisor_room) j ≡ (get_or ks j no_constraint).divisor
  unfolding number_in divisor_at
  divisor-at = get_d-tab (divisor_at ks) divisor_room j (pos 0) h

  input-is : (n : ℕ) → n ≤ max_variables → length (get_or ks j no_constraint).coefficients ≡ n →
      input_at n (tab (in_rows ks) 0 cells) (tab (divisor_at ks) 0 divisor_room) j ≡ get_or ks j no_constraint
  unfolding input_at divided_at cell in_row coefficient_at
  input-is n few e =
      let k = get_or ks j no_constraint in
      let rows = tab (in_rows ks) 0 cells in
      let first : number_in (tab (in_rows ks) 0 cells) (row_length * j) ≡ (get_or ks j no_constraint).constant = ap (number_in rows) (omega arith) ∙ cell_at 0 (omega arith) in
      let rest : tab (cell (tab (in_rows ks) 0 cells) (row_length * j)) 0 n ≡ (get_or ks j no_constraint).coefficients =
      tab-is k.coefficients n (cell rows (row_length * j)) (pos 0) e
      (λ i l. sym (ap (number_in rows) (omega arith) ∙ cell_at (suc i) (omega arith))) in
      λ i. record { constant = first i; coefficients = rest i; divisor = divisor-at i }

-- ---- the problem
module _ (p : model.Problem) (few : variables p ≤ max_variables) (short : length p.constraints ≤ max_constraints)
    (even : length p.thresholds ≡ variables p) (shape : all_of (constraint_shaped (variables p)) p.constraints ≡ true) where
  constraints-are : tab (input_at (variables p) (tab (in_rows p.constraints) 0 cells) (tab (divisor_at p.constraints) 0 divisor_room)) 0 (length p.constraints) ≡ p.constraints
  unfolding constraint_shaped
  constraints-are =
      let ks = p.constraints in
      tab-is ks (length ks) (input_at (variables p) (tab (in_rows ks) 0 cells) (tab (divisor_at ks) 0 divisor_room)) no_constraint refl
      (λ j l. sym (input-is ks j (omega arith) (variables p) few (eqb-true _ _ (all_of-get_d (constraint_shaped (variables p)) ks j no_constraint shape l))))

  pub view-of-packed : problem_of (packed p) ≡ p
  unfolding problem_of packed variables
  view-of-packed =
      λ i. record {
        domain = box-is p.domain few i;
        thresholds = thresholds-are p.thresholds (variables p) even few i;
        constraints = constraints-are i;
        budget = p.budget;
      }

-- the problem of a file whose sizes are in range, and so of every accepted one
pub view-of-file : (f : List ℕ) → Sizes (problem_in f) → problem_of (packed (problem_in f)) ≡ problem_in f
view-of-file f s =
    view-of-packed (problem_in f) s.few-variables s.few-constraints (thresholds-in f)
    (true_of (all_of (constraint_shaped (variables (problem_in f))) (problem_in f).constraints) (problem-shaped f))

pub view-of-accepted : (f : List ℕ) → read_error f ≡ 0 → problem_of (packed (problem_in f)) ≡ problem_in f
view-of-accepted f e = view-of-file f (sizes (problem_in f) (tests f e).sized)
