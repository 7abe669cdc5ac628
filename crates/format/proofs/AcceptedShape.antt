-- What is known of the problem of an accepted file: its numbers are in range, and every constraint has a coefficient for each variable.
use Prim.Native.Nat.{ℕ, suc, ◌≤◌}
use mathlib.Core.Bool.{true, ◌&&◌}
use mathlib.Core.Path.{◌≡◌, sym, ◌∙◌}
use mathlib.Core.List.{List}
use lib.Dec.{T}
use lib.ListN.{length}
use borrow.Author.Tests.{leb-true, eq-eqb}
use Rattle.model_problems.specs.Ranges.{max_variables, max_constraints, max_budget}
use Rattle.model_problems.specs.Lists.{all, all_of}
use Rattle.model_files.specs.Bytes.{block}
use Rattle.model_problems.specs.Problem.{Problem, variables, sizes_in_range, domain_in_range, thresholds_in_range, constraints_in_range, divisors_in_range, first_error}
use Rattle.model_files.specs.File.{variables_in, constraints_in, bounds_in, threshold_in, constraint_in, coefficient_in, constraint_of, problem_in, whole_blocks, checks_match, magic_matches, block_count_matches, padding_zero, read_error}
use Rattle.model_walk.specs.Validity.{constraint_shaped}
use Rattle.lists.proofs.Bools.{T_of, and-true}
use Rattle.lists.proofs.Tab.{length-tab}
use Rattle.lists.proofs.All.{all-of}
use Rattle.lists.proofs.AllOf.{all_of-tab}
use Rattle.format.proofs.Errors.{passed}

-- ---- the sizes that pass their test
pub record Sizes (p : Problem) : Type 0 where
  pub some : 1 ≤ variables p
  pub few-variables : variables p ≤ max_variables
  pub few-constraints : length p.constraints ≤ max_constraints
  pub small-budget : p.budget ≤ max_budget

pub sizes : (p : Problem) → sizes_in_range p ≡ true → Sizes p
unfolding sizes_in_range all
sizes p e =
    let e₁ = and-true _ _ e in
    let e₂ = and-true _ _ e₁.1 in
    let e₃ = and-true _ _ e₂.1 in
    let e₄ = and-true _ _ e₃.1 in
    record {
      some = leb-true _ _ e₁.0;
      few-variables = leb-true _ _ e₂.0;
      few-constraints = leb-true _ _ e₃.0;
      small-budget = leb-true _ _ e₄.0;
    }

-- ---- an accepted file passes each of the table's tests, and back
pub record Tests (f : List ℕ) : Type 0 where
  pub whole : whole_blocks f ≡ true
  pub checked : checks_match f ≡ true
  pub lettered : magic_matches f ≡ true
  pub sized : sizes_in_range (problem_in f) ≡ true
  pub counted : block_count_matches f ≡ true
  pub bounded : domain_in_range (problem_in f) ≡ true
  pub threshold-range : thresholds_in_range (problem_in f) ≡ true
  pub coefficient-range : constraints_in_range (problem_in f) ≡ true
  pub divisor_range : divisors_in_range (problem_in f) ≡ true
  pub clean : padding_zero f ≡ true

pub tests : (f : List ℕ) → read_error f ≡ 0 → Tests f
unfolding read_error
tests f e =
    let e₁ = passed 0 (whole_blocks f) _ e in
    let e₂ = passed 1 (checks_match f) _ e₁.1 in
    let e₃ = passed 2 (magic_matches f) _ e₂.1 in
    let e₄ = passed 3 (sizes_in_range (problem_in f) && block_count_matches f) _ e₃.1 in
    let e₅ = passed 4 (domain_in_range (problem_in f)) _ e₄.1 in
    let e₆ = passed 12 (thresholds_in_range (problem_in f)) _ e₅.1 in
    let e₇ = passed 5 (constraints_in_range (problem_in f)) _ e₆.1 in
    let e₈ = passed 9 (divisors_in_range (problem_in f)) _ e₇.1 in
    let e₉ = passed 6 (padding_zero f) _ e₈.1 in
    let s = and-true (sizes_in_range (problem_in f)) (block_count_matches f) e₄.0 in
    record {
      whole = e₁.0;
      checked = e₂.0;
      lettered = e₃.0;
      sized = s.0;
      counted = s.1;
      bounded = e₅.0;
      threshold-range = e₆.0;
      coefficient-range = e₇.0;
      divisor_range = e₈.0;
      clean = e₉.0;
    }

pub no-error : (f : List ℕ) → Tests f → read_error f ≡ 0
unfolding read_error first_error
no-error f a = rw (a.whole, a.checked, a.lettered, a.sized, a.counted, a.bounded, a.threshold-range, a.coefficient-range, a.divisor_range, a.clean)

-- ---- the problem in a file has the sizes that its head says
pub variables-in : (f : List ℕ) → variables (problem_in f) ≡ variables_in f
unfolding variables problem_in
variables-in f = length-tab (bounds_in f) 0 (variables_in f)

pub thresholds-in : (f : List ℕ) → length (problem_in f).thresholds ≡ variables (problem_in f)
unfolding problem_in
thresholds-in f = length-tab (threshold_in f) 0 (variables_in f) ∙ sym (variables-in f)

pub constraints-in : (f : List ℕ) → length (problem_in f).constraints ≡ constraints_in f
unfolding problem_in
constraints-in f = length-tab (constraint_of f) 0 (constraints_in f)

-- ---- the facts
module _ (f : List ℕ) (e : read_error f ≡ 0) where
  pub accepted-sizes : T (sizes_in_range (problem_in f))
  accepted-sizes = T_of (tests f e).sized

  pub accepted-domain : T (domain_in_range (problem_in f))
  accepted-domain = T_of (tests f e).bounded

  pub accepted-thresholds : T (thresholds_in_range (problem_in f))
  accepted-thresholds = T_of (tests f e).threshold-range

  pub accepted-constraints : T (constraints_in_range (problem_in f))
  accepted-constraints = T_of (tests f e).coefficient-range

  pub accepted-divisors : T (divisors_in_range (problem_in f))
  accepted-divisors = T_of (tests f e).divisor_range

-- this one holds of any bytes
pub problem-shaped : (f : List ℕ) → T (all_of (constraint_shaped (variables (problem_in f))) (problem_in f).constraints)
unfolding problem_in constraint_shaped constraint_of constraint_in
problem-shaped f =
    T_of (all_of-tab (constraint_shaped (variables (problem_in f))) (constraint_of f) 0 (constraints_in f) ∙
    all-of (λ j. constraint_shaped (variables (problem_in f)) (constraint_of f j)) (constraints_in f)
    (λ j l. eq-eqb _ _ (length-tab (coefficient_in (block f (suc j))) 0 (variables_in f) ∙ sym (variables-in f))))
