-- A problem that the writer takes, written and read, is the problem.
use Prim.Native.Nat.{ℕ, zero, suc, ◌+◌, ◌*◌, ◌/◌, ◌<◌, ◌≤◌}
use native.Mathlib.Omega.{arith}
use native.Mathlib.Nat.{mul-div_right, mul-mod_right}
use mathlib.Core.Bool.{true}
use mathlib.Core.Path.{◌≡◌, refl, sym, ap, ap₂, ◌∙◌}
use mathlib.Core.List.{List}
use lib.IntN.{ℤ, pos}
use lib.Dec.{T, eqb, leb}
use lib.ListN.{get_or, take, length}
use lib.Seq.{take-take}
use borrow.Author.Tests.{leb-true, le-leb, eqb-true, eq-eqb}
use Rattle.model_problems.specs.Lists.{tab, all_of}
use Rattle.model_problems.specs.Ranges.{max_variables}
use Rattle.model_problems.specs.Constraint.{no_bounds, lower_at, upper_at, in_range, divisor_in_range}
use Rattle.model_problems.specs.Threshold.{threshold_at, threshold_fits}
use Rattle.model_problems.specs.Problem.{Problem, variables, sizes_in_range, domain_in_range, thresholds_in_range, constraints_in_range, divisors_in_range, ok}
use Rattle.model_files.specs.Bytes.{u16_at, u32_at, i32_at, check_offset, block, checksum}
use Rattle.model_files.specs.File.{magic, variables_in, constraints_in, budget_in, bounds_offset, bounds_in, threshold_offset, threshold_in, constraint_of, problem_in, whole_blocks, check_matches, checks_match, magic_matches, block_count_matches, constraint_padded, padding_zero, read_error, read_file, head_bytes, constraint_bytes, no_constraint, block_of, file_of, file_length, write_error}
use Rattle.model_walk.specs.Validity.{constraint_shaped}
use Rattle.lists.proofs.Bools.{true_of}
use Rattle.lists.proofs.Tab.{tab-is}
use Rattle.lists.proofs.All.{all-of}
use Rattle.lists.proofs.AllOf.{all_of-get_d}
use Rattle.lists.proofs.AllPairs.{pairs-length, pairs-refl}
use Rattle.format.proofs.Errors.{passed, result_ok}
use Rattle.format.proofs.ByteLaws.{u16-take, u32-take, i32-take}
use Rattle.format.proofs.BlockLaws.{sealed-check}
use Rattle.format.proofs.FileShape.{head-fits, constraint-fits, length-file, block-of-file}
use Rattle.format.proofs.AcceptedShape.{Sizes, sizes, Tests, no-error}
use Rattle.format.proofs.BlocksRead.{constraint-padded, constraint-read, head_block, magic-stands, variables-read, constraints-read, budget-read, head-padded, lower-read, upper-read, threshold-read}

-- ---- what the writer takes
pub record Writable (p : Problem) (room : ℕ) : Type 0 where
  pub sized : sizes_in_range p ≡ true
  pub bounded : domain_in_range p ≡ true
  pub threshold-range : thresholds_in_range p ≡ true
  pub coefficient-range : constraints_in_range p ≡ true
  pub divisor_range : divisors_in_range p ≡ true
  pub fits : file_length p ≤ room

pub writable : (p : Problem) (room : ℕ) → write_error p room ≡ 0 → Writable p room
unfolding write_error
writable p room e =
    let e₁ = passed 3 (sizes_in_range p) _ e in
    let e₂ = passed 4 (domain_in_range p) _ e₁.1 in
    let e₃ = passed 12 (thresholds_in_range p) _ e₂.1 in
    let e₄ = passed 5 (constraints_in_range p) _ e₃.1 in
    let e₅ = passed 9 (divisors_in_range p) _ e₄.1 in
    let e₆ = passed 7 (leb (file_length p) room) _ e₅.1 in
    record { sized = e₁.0; bounded = e₂.0; threshold-range = e₃.0; coefficient-range = e₄.0; divisor_range = e₅.0; fits = leb-true _ _ e₆.0 }

-- ---- the file of a problem whose sizes are in range
module _ (p : Problem) (s : Sizes p) where
  few : variables p ≤ max_variables
  few = s.few-variables

  -- its head is its first block
  first : take 512 (file_of p) ≡ head_block p
  unfolding block block_of
  first = block-of-file p few 0 (omega arith)

  variables-are : variables_in (file_of p) ≡ variables p
  unfolding variables_in
  variables-are = sym (u16-take 512 (file_of p) 4 (omega arith)) ∙ ap (λ (b : List ℕ). u16_at b 4) first ∙ variables-read p (omega (arith, few))

  constraints-are : constraints_in (file_of p) ≡ length p.constraints
  unfolding constraints_in
  constraints-are = sym (u16-take 512 (file_of p) 6 (omega arith)) ∙ ap (λ (b : List ℕ). u16_at b 6) first ∙ constraints-read p (omega arith)

  budget-is : budget_in (file_of p) ≡ p.budget
  unfolding budget_in
  budget-is = sym (u32-take 512 (file_of p) 8 (omega arith)) ∙ ap (λ (b : List ℕ). u32_at b 8) first ∙ budget-read p (omega arith)

  -- ---- the tests on its bytes
  size_is : length (file_of p) ≡ 512 * suc (length p.constraints)
  unfolding file_length
  size_is = length-file p few

  whole_is : whole_blocks (file_of p) ≡ true
  unfolding whole_blocks
  whole_is = rw (size_is, le-leb 512 (512 * suc (length p.constraints)) (omega arith), mul-mod_right 512 (suc (length p.constraints)))

  check-is : (k : ℕ) → checksum k (block_of p k) ≡ u32_at (block_of p k) check_offset
  unfolding block_of
  check-is zero = sealed-check 0 (head_bytes p) (head-fits p few)
  check-is (suc j) =
      let k = get_or p.constraints j no_constraint in sealed-check (suc j) (constraint_bytes (variables p) k) (constraint-fits p few k)

  checked-is : checks_match (file_of p) ≡ true
  unfolding checks_match check_matches
  checked-is =
      let m = suc (length p.constraints) in
      let e : 512 * suc (length p.constraints) / 512 ≡ suc (length p.constraints) = mul-div_right m (omega arith) in
      rw (size_is, e) (all-of (check_matches (file_of p)) m (λ k l. rw (block-of-file p few k l) (eq-eqb _ _ (check-is k))))

  lettered-is : magic_matches (file_of p) ≡ true
  unfolding magic_matches
  lettered-is =
      let e : take 4 (file_of p) ≡ magic = sym (take-take 4 512 (file_of p) (omega arith)) ∙ ap (take 4) first ∙ magic-stands p in
      rw e (pairs-refl eqb (λ x. eq-eqb x x refl) magic)

  counted_is : block_count_matches (file_of p) ≡ true
  unfolding block_count_matches
  counted_is = rw constraints-are (eq-eqb _ _ size_is)

  padded-is : (j : ℕ) → j < length p.constraints → constraint_padded (file_of p) j ≡ true
  unfolding constraint_padded block_of
  padded-is j l =
      rw (variables-are, block-of-file p few (suc j) (omega arith)) (constraint-padded (variables p) (suc j) (get_or p.constraints j no_constraint) few)

  clean_is : padding_zero (file_of p) ≡ true
  unfolding padding_zero block_of
  clean_is =
      rw (variables-are, constraints-are, block-of-file p few 0 (omega arith), head-padded p few) (all-of (constraint_padded (file_of p)) (length p.constraints) padded-is)

-- ---- the problem in it
module _ (p : Problem) (room : ℕ) (w : Writable p room) (shape : all_of (constraint_shaped (variables p)) p.constraints ≡ true) where
  s : Sizes p
  s = sizes p w.sized

  here : (q : ℕ) → q + 4 ≤ 512 → i32_at (file_of p) q ≡ i32_at (head_block p) q
  here q h = sym (i32-take 512 (file_of p) q h) ∙ ap (λ (b : List ℕ). i32_at b q) (first p s)

  bounds-are : (i : ℕ) → i < variables p → bounds_in (file_of p) i ≡ get_or p.domain i no_bounds
  unfolding bounds_in bounds_offset lower_at upper_at
  bounds-are i l =
      let n = s.few-variables in
      ap₂ (λ (a b : ℤ). record { lower = a; upper = b })
      (here (12 + 8 * i) (omega arith) ∙ lower-read p w.bounded i l)
      (here (12 + 8 * i + 4) (omega arith) ∙ upper-read p w.bounded i l)

  threshold-is : (i : ℕ) → i < variables p → threshold_in (file_of p) i ≡ get_or p.thresholds i (pos 0)
  unfolding threshold_in threshold_offset threshold_at
  threshold-is i l = let n = s.few-variables in here (268 + 4 * i) (omega arith) ∙ threshold-read p w.bounded i l w.threshold-range n

  constraint-is : (j : ℕ) → j < length p.constraints → constraint_of (file_of p) j ≡ get_or p.constraints j no_constraint
  unfolding constraint_of block_of constraint_shaped constraints_in_range divisors_in_range
  constraint-is j l =
      let k = get_or p.constraints j no_constraint in
      rw (variables-are p s, block-of-file p s.few-variables (suc j) (omega arith))
      (constraint-read (variables p) (suc j) k s.few-variables
      (eqb-true _ _ (all_of-get_d (constraint_shaped (variables p)) p.constraints j no_constraint shape l))
      (all_of-get_d in_range p.constraints j no_constraint w.coefficient-range l)
      (all_of-get_d divisor_in_range p.constraints j no_constraint w.divisor_range l))

  domain-is : tab (bounds_in (file_of p)) 0 (variables_in (file_of p)) ≡ p.domain
  unfolding variables
  domain-is = rw (variables-are p s) (tab-is p.domain (variables p) (bounds_in (file_of p)) no_bounds refl (λ i l. sym (bounds-are i l)))

  thresholds-are : tab (threshold_in (file_of p)) 0 (variables_in (file_of p)) ≡ p.thresholds
  unfolding variables thresholds_in_range
  thresholds-are =
      rw (variables-are p s)
      (tab-is p.thresholds (variables p) (threshold_in (file_of p)) (pos 0) (pairs-length threshold_fits p.thresholds p.domain w.threshold-range) (λ i l. sym (threshold-is i l)))

  constraint-list-is : tab (constraint_of (file_of p)) 0 (constraints_in (file_of p)) ≡ p.constraints
  constraint-list-is =
      rw (constraints-are p s) (tab-is p.constraints (length p.constraints) (constraint_of (file_of p)) no_constraint refl (λ j l. sym (constraint-is j l)))

  problem-is : problem_in (file_of p) ≡ p
  unfolding problem_in
  problem-is = λ i. record { domain = domain-is i; thresholds = thresholds-are i; constraints = constraint-list-is i; budget = budget-is p s i }

  tests-passed : Tests (file_of p)
  tests-passed = record {
    whole = whole_is p s;
    checked = checked-is p s;
    lettered = lettered-is p s;
    sized = rw problem-is w.sized;
    counted = counted_is p s;
    bounded = rw problem-is w.bounded;
    threshold-range = rw problem-is w.threshold-range;
    coefficient-range = rw problem-is w.coefficient-range;
    divisor_range = rw problem-is w.divisor_range;
    clean = clean_is p s;
  }

-- ---- the theorem
module _ (p : Problem) (room : ℕ) (shape : T (all_of (constraint_shaped (variables p)) p.constraints)) (e : write_error p room ≡ 0) where
  pub written-accepted : read_error (file_of p) ≡ 0
  written-accepted = no-error (file_of p) (tests-passed p room (writable p room e) (true_of (all_of (constraint_shaped (variables p)) p.constraints) shape))

  pub written-is-read : read_file (file_of p) ≡ ok p
  unfolding read_file
  written-is-read =
      result_ok (problem_in (file_of p)) written-accepted ∙
      ap ok (problem-is p room (writable p room e) (true_of (all_of (constraint_shaped (variables p)) p.constraints) shape))
