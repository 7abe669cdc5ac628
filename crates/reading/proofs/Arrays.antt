-- The arrays that are filled from a file are the arrays of the file's problem.
use Prim.Native.Nat.{ℕ, zero, suc, ◌+◌, ◌*◌, ◌/◌, ◌%◌, ◌-◌, ◌<◌, ◌≤◌}
use native.Mathlib.Omega.{arith}
use mathlib.Core.Path.{◌≡◌, refl, sym, ap, ◌∙◌}
use mathlib.Core.List.{List}
use lib.IntN.{ℤ, pos}
use lib.ListN.{get_or, replicate}
use Rattle.model_files.specs.Bytes.{i32_at}
use Rattle.model_problems.specs.Constraint.{Constraint, Bounds, no_bounds, coefficient_at, lower_at, upper_at}
use Rattle.model_problems.specs.Threshold.{threshold_at}
use Rattle.model_files.specs.File.{variables_in, constraints_in, budget_in, bounds_in, threshold_in, constraint_of, problem_in, no_constraint}
use Rattle.model_problems.specs.Lists.{tab}
use Rattle.lists.proofs.Tab.{get_d-tab, get_d-tab-past, tab-append, tab-ext, tab-ext-0, tab-const}
use Rattle.format.proofs.AcceptedShape.{variables-in, constraints-in}
use Rattle.layout.specs.Rows.{row_length}
use Rattle.fields.specs.Fields.{Blocks, room, cells, divisor_room, zeros, in_row, filled, bound_in, cell_in, divisor_in}
use Rattle.problem.specs.declared.Problem.{Problem}
use Rattle.problem.specs.View.{in_rows, divisor_at, packed}

-- an array that is filled is the table of a function that is 0 from there on
filled_is : (f g : ℕ → ℤ) (n w : ℕ) → n ≤ w → ((i : ℕ) → i < n → f i ≡ g i) → ((i : ℕ) → n ≤ i → g i ≡ pos 0) → filled f n w ≡ tab g 0 w
unfolding filled zeros
filled_is f g n w l h z =
    let e : n + (w - n) ≡ w = omega arith in
    let s : 0 + n ≡ n = omega arith in
    let later : tab g n (w - n) ≡ replicate (w - n) (pos 0) = tab-ext g (λ k. pos 0) n (w - n) (λ k a b. z k a) ∙ tab-const (pos 0) n (w - n) in
    rw (← later, tab-ext-0 f g n h) (sym (ap (tab g 0) (sym e) ∙ tab-append g 0 n (w - n) ∙ rw s))

module _ (f : List ℕ) (n : ℕ) (en : n ≡ variables_in f) (few : n ≤ room) where
  bounds-at : (i : ℕ) → i < n → get_or (problem_in f).domain i no_bounds ≡ bounds_in f i
  unfolding problem_in
  bounds-at i l = get_d-tab (bounds_in f) (variables_in f) i no_bounds (omega arith)

  bounds-past : (i : ℕ) → n ≤ i → get_or (problem_in f).domain i no_bounds ≡ no_bounds
  unfolding problem_in
  bounds-past i l = get_d-tab-past (bounds_in f) 0 (variables_in f) i no_bounds (omega arith)

  lower-is : filled (bound_in f 0) n room ≡ tab (lower_at (problem_in f).domain) 0 room
  unfolding bound_in bounds_in lower_at
  lower-is =
      filled_is (bound_in f 0) (lower_at (problem_in f).domain) n room few
      (λ i l. ap (i32_at f) (omega arith) ∙ sym (ap (λ (b : Bounds). b.lower) (bounds-at i l)))
      (λ i l. ap (λ (b : Bounds). b.lower) (bounds-past i l))

  upper_is : filled (bound_in f 4) n room ≡ tab (upper_at (problem_in f).domain) 0 room
  unfolding bound_in bounds_in upper_at
  upper_is =
      filled_is (bound_in f 4) (upper_at (problem_in f).domain) n room few
      (λ i l. sym (ap (λ (b : Bounds). b.upper) (bounds-at i l)))
      (λ i l. ap (λ (b : Bounds). b.upper) (bounds-past i l))

  thresholds-are : filled (threshold_in f) n room ≡ tab (threshold_at (problem_in f).thresholds) 0 room
  unfolding threshold_at problem_in
  thresholds-are =
      filled_is (threshold_in f) (threshold_at (problem_in f).thresholds) n room few
      (λ i l. sym (get_d-tab (threshold_in f) (variables_in f) i (pos 0) (omega arith)))
      (λ i l. get_d-tab-past (threshold_in f) 0 (variables_in f) i (pos 0) (omega arith))

no_cell : (i : ℕ) → in_row no_constraint i ≡ pos 0
unfolding in_row coefficient_at
no_cell zero = refl
no_cell (suc i) = refl

module _ (f : List ℕ) (m : ℕ) (em : m ≡ constraints_in f) (few : m ≤ divisor_room) where
  rows_are : filled (cell_in f) (row_length * m) cells ≡ tab (in_rows (problem_in f).constraints) 0 cells
  unfolding cell_in in_rows problem_in
  rows_are =
      filled_is (cell_in f) (in_rows (problem_in f).constraints) (row_length * m) cells (omega arith)
      (λ c l. sym (ap (λ (k : Constraint). in_row k (c % row_length)) (get_d-tab (constraint_of f) (constraints_in f) (c / row_length) no_constraint (omega arith))))
      (λ c l. ap (λ (k : Constraint). in_row k (c % row_length)) (get_d-tab-past (constraint_of f) 0 (constraints_in f) (c / row_length) no_constraint (omega arith)) ∙ no_cell (c % row_length))

  divisors-are : filled (divisor_in f) m divisor_room ≡ tab (divisor_at (problem_in f).constraints) 0 divisor_room
  unfolding divisor_in divisor_at problem_in
  divisors-are =
      filled_is (divisor_in f) (divisor_at (problem_in f).constraints) m divisor_room few
      (λ j l. sym (ap (λ (k : Constraint). k.divisor) (get_d-tab (constraint_of f) (constraints_in f) j no_constraint (omega arith))))
      (λ j l. ap (λ (k : Constraint). k.divisor) (get_d-tab-past (constraint_of f) 0 (constraints_in f) j no_constraint (omega arith)))

-- ---- and the problem
same : {n n' m m' b b' : ℕ} {l l' u u' k k' q q' t t' : List ℤ} → n ≡ n' → m ≡ m' → b ≡ b' → l ≡ l' → u ≡ u' → k ≡ k' → q ≡ q' → t ≡ t' →
    ◌≡◌ {A = Problem} (record { n = n; m = m; budget = b; lower = l; upper = u; constraints = k; divisors = q; thresholds = t })
    (record { n = n'; m = m'; budget = b'; lower = l'; upper = u'; constraints = k'; divisors = q'; thresholds = t' })
same en em eb el eu ek eq et = cc

pub problem-is : (f : List ℕ) (n m b : ℕ) (l u k q t : List ℤ) → Blocks f → n ≡ variables_in f → m ≡ constraints_in f → b ≡ budget_in f →
    l ≡ filled (bound_in f 0) n room → u ≡ filled (bound_in f 4) n room → k ≡ filled (cell_in f) (row_length * m) cells →
    q ≡ filled (divisor_in f) m divisor_room → t ≡ filled (threshold_in f) n room →
    ◌≡◌ {A = Problem} (record { n = n; m = m; budget = b; lower = l; upper = u; constraints = k; divisors = q; thresholds = t }) (packed (problem_in f))
unfolding packed problem_in
problem-is f n m b l u k q t s en em eb el eu ek eq et =
    let few = s.few-variables in
    let short = s.few-constraints in
    same (en ∙ sym (variables-in f)) (em ∙ sym (constraints-in f)) eb
    (el ∙ lower-is f n en (omega arith)) (eu ∙ upper_is f n en (omega arith)) (ek ∙ rows_are f m em (omega arith)) (eq ∙ divisors-are f m em (omega arith))
    (et ∙ thresholds-are f n en (omega arith))
