-- What an accepted file says, written, is the file.
use Prim.Native.Nat.{ℕ, zero, suc, ◌+◌, ◌*◌, ◌/◌, ◌<◌, ◌≤◌}
use native.Mathlib.Omega.{arith}
use native.Mathlib.Nat.{zero-add, mul-div_right}
use mathlib.Core.Bool.{true}
use mathlib.Core.Path.{◌≡◌, sym, ap, ◌∙◌}
use mathlib.Core.List.{List, ◌++◌}
use lib.IntN.{pos}
use lib.Dec.{eqb}
use lib.ListN.{get_or, take, drop, length}
use lib.Seq.{take_all, take-take}
use borrow.Author.Tests.{eqb-true, le-leb}
use Rattle.model_problems.specs.Lists.{tab, parts, all}
use Rattle.model_problems.specs.Ranges.{max_variables}
use Rattle.model_problems.specs.Constraint.{Bounds, no_bounds, lower_at, upper_at, coefficient_at}
use Rattle.model_problems.specs.Threshold.{threshold_at}
use Rattle.model_problems.specs.Problem.{first_error}
use Rattle.model_files.specs.Bytes.{Bytes, u16_at, u32_at, i32_bytes, check_offset, block, checksum, zero_between, zero_from}
use Rattle.model_files.specs.File.{magic, variables_in, constraints_in, budget_in, bounds_offset, bounds_in, threshold_offset, threshold_in, coefficient_offset, divisor_offset, coefficient_in, constraint_in, constraint_of, problem_in, check_matches, checks_match, magic_matches, block_count_matches, block_padded, constraint_padded, head_padded, padding_zero, read_error, bounds_bytes, threshold_bytes, limits_bytes, head_bytes, coefficient_bytes, numbers_bytes, constraint_bytes, no_constraint, block_of, file_of, file_length, write_error, written_by, write_file}
use Rattle.lists.proofs.Bools.{and-true}
use Rattle.lists.proofs.Tab.{get_d-tab}
use Rattle.lists.proofs.Parts.{parts-of}
use Rattle.lists.proofs.All.{all-at}
use Rattle.lists.proofs.AllPairs.{pairs-equal}
use Rattle.format.proofs.ByteLaws.{join, u16-written, u32-written, i32-written}
use Rattle.format.proofs.BlockLaws.{bytes-block, length-block, two-of, sealed-of}
use Rattle.format.proofs.AcceptedShape.{sizes, Tests, tests, variables-in, constraints-in}

-- ---- a constraint's bytes, from the block that it stands in
module _ (b : List ℕ) (y : Bytes b) (n : ℕ) (few : n ≤ max_variables) (l : divisor_offset + 4 ≤ length b) where
  coefficient-is : (i : ℕ) → i < n → coefficient_bytes (constraint_in n b) i ≡ take 4 (drop (4 + 4 * i) b)
  unfolding coefficient_bytes coefficient_at constraint_in coefficient_in coefficient_offset
  coefficient-is i h = ap i32_bytes (get_d-tab (coefficient_in b) n i (pos 0) h) ∙ i32-written b y (4 + 4 * i) (omega arith)

  numbers-are : numbers_bytes n (constraint_in n b) ≡ take (4 + 4 * n) b
  unfolding numbers_bytes constraint_in
  numbers-are =
      rw (i32-written b y 0 (omega arith), parts-of 4 4 b (coefficient_bytes (constraint_in n b)) n coefficient-is) (join b 0 4 (4 * n))

  constraint-is : zero_between (4 + 4 * n) divisor_offset b ≡ true → constraint_bytes n (constraint_in n b) ≡ take (divisor_offset + 4) b
  unfolding constraint_bytes constraint_in
  constraint-is z =
      rw (numbers-are, i32-written b y divisor_offset l) (two-of b (4 + 4 * n) divisor_offset 4 l (omega arith) z)

first_block : (f : List ℕ) (n : ℕ) → n ≤ 512 → take n f ≡ take n (block f 0)
unfolding block
first_block f n h = sym (take-take n 512 f h)

-- ---- an accepted file
module _ (f : List ℕ) (y : Bytes f) (a : Tests f) where
  few : variables_in f ≤ max_variables
  few = omega (arith, (sizes (problem_in f) a.sized).few-variables, variables-in f)

  long : length f ≡ 512 * suc (constraints_in f)
  unfolding block_count_matches
  long = eqb-true _ _ a.counted

  checks : (k : ℕ) → k < suc (constraints_in f) → checksum k (block f k) ≡ u32_at (block f k) check_offset
  unfolding checks_match check_matches
  checks k l =
      let e : length f / 512 ≡ suc (constraints_in f) = rw long (mul-div_right (suc (constraints_in f)) (omega arith)) in
      eqb-true _ _ (all-at (check_matches f) (length f / 512) k a.checked (rw e l))

  -- the head: the letters, the sizes and the bounds
  magic-is : take 4 f ≡ magic
  unfolding magic_matches
  magic-is = pairs-equal eqb eqb-true (take 4 f) magic a.lettered

  bounds-in : (i : ℕ) → i < variables_in f → get_or (problem_in f).domain i no_bounds ≡ bounds_in f i
  unfolding problem_in
  bounds-in i l = get_d-tab (bounds_in f) (variables_in f) i no_bounds l

  bounds-is : (i : ℕ) → i < variables_in f → bounds_bytes (problem_in f) i ≡ take 8 (drop (12 + 8 * i) f)
  unfolding bounds_bytes lower_at upper_at bounds_in bounds_offset
  bounds-is i l =
      ap (λ (b : Bounds). i32_bytes b.lower ++ i32_bytes b.upper) (bounds-in i l) ∙
      rw (i32-written f y (12 + 8 * i) (omega (arith, few, long)), i32-written f y (12 + 8 * i + 4) (omega (arith, few, long)))
      (join f (12 + 8 * i) 4 4)

  limits-are : limits_bytes (problem_in f) ≡ take (12 + 8 * variables_in f) f
  unfolding limits_bytes variables_in constraints_in budget_in problem_in
  limits-are =
      let x = 8 * u16_at f 4 in
      let total : 4 + (2 + (2 + (4 + 8 * u16_at f 4))) ≡ 12 + 8 * u16_at f 4 = omega arith in
      let bounds : parts (bounds_bytes (problem_in f)) 0 (u16_at f 4) ≡ take (8 * u16_at f 4) (drop 12 f) = parts-of 8 12 f (bounds_bytes (problem_in f)) (u16_at f 4) bounds-is in
      rw (variables-in f, constraints-in f, ← magic-is, u16-written f y 4 (omega (arith, long)), u16-written f y 6 (omega (arith, long)), u32-written f y 8 (omega (arith, long)), bounds)
      (rw (join f 8 4 x, join f 6 2 (4 + x), join f 4 2 (2 + (4 + x)), join f 0 4 (2 + (2 + (4 + x)))) (ap (λ (n : ℕ). take n f) total))

  threshold-is : (i : ℕ) → i < variables_in f → threshold_bytes (problem_in f) i ≡ take 4 (drop (268 + 4 * i) f)
  unfolding threshold_bytes threshold_at problem_in threshold_in threshold_offset
  threshold-is i l = ap i32_bytes (get_d-tab (threshold_in f) (variables_in f) i (pos 0) l) ∙ i32-written f y (268 + 4 * i) (omega (arith, few, long))

  -- ---- its blocks
  padding : (head_padded (variables_in f) (block f 0) ≡ true) × (all (tab (constraint_padded f) 0 (constraints_in f)) ≡ true)
  unfolding padding_zero
  padding = and-true _ _ a.clean

  head-padding : (zero_between (12 + 8 * variables_in f) 268 f ≡ true) × (zero_from (268 + 4 * variables_in f) (block f 0) ≡ true)
  unfolding head_padded bounds_offset threshold_offset zero_between
  head-padding = rw (first_block f 268 (omega arith)) (and-true _ _ padding.0)

  head-is : head_bytes (problem_in f) ≡ take (268 + 4 * variables_in f) f
  unfolding head_bytes threshold_offset
  head-is =
      rw (limits-are, variables-in f, parts-of 4 268 f (threshold_bytes (problem_in f)) (variables_in f) threshold-is)
      (two-of f (12 + 8 * variables_in f) 268 (4 * variables_in f) (omega (arith, few, long)) (omega (arith, few)) head-padding.0)

  constraint-in : (j : ℕ) → j < constraints_in f → get_or (problem_in f).constraints j no_constraint ≡ constraint_in (variables_in f) (block f (suc j))
  unfolding problem_in constraint_of
  constraint-in j l = get_d-tab (constraint_of f) (constraints_in f) j no_constraint l

  block-is : (k : ℕ) → k < suc (constraints_in f) → block_of (problem_in f) k ≡ block f k
  unfolding block_of constraint_padded block_padded coefficient_offset
  block-is zero l =
      let n = 268 + 4 * variables_in f in
      rw (head-is, first_block f (268 + 4 * variables_in f) (omega (arith, few)))
      (sealed-of (block f 0) n (length-block f 0 (omega (arith, long))) (omega (arith, few)) head-padding.1 0 (bytes-block f 0 y) (checks 0 l))
  block-is (suc j) l =
      let b = block f (suc j) in
      let n = variables_in f in
      let lb = length-block f (suc j) (omega (arith, long)) in
      let yb = bytes-block f (suc j) y in
      let z = and-true (zero_between (4 + 4 * n) divisor_offset b) (zero_from (divisor_offset + 4) b) (all-at (constraint_padded f) (constraints_in f) j padding.1 (omega arith)) in
      rw (constraint-in j (omega arith), variables-in f, constraint-is b yb n few (omega arith) z.0)
      (sealed-of b (divisor_offset + 4) lb (omega arith) z.1 (suc j) yb (checks (suc j) l))

-- ---- the theorem
pub file-is-written : (f : List ℕ) → Bytes f → read_error f ≡ 0 → file_of (problem_in f) ≡ f
unfolding file_of block
file-is-written f y e =
    let a = tests f e in
    let m = constraints_in f in
    rw (constraints-in f)
    (parts-of 512 0 f (block_of (problem_in f)) (suc m) (λ k l. rw (zero-add (512 * k)) (block-is f y a k l)) ∙ take_all (512 * suc m) f (omega (arith, long f y a)))

-- ---- and from it: an accepted file, read and written into a buffer that holds it, stands at the buffer's start
module _ (f : List ℕ) (y : Bytes f) (e : read_error f ≡ 0) where
  size_is : file_length (problem_in f) ≡ length f
  unfolding file_length
  size_is = rw (constraints-in f) (sym (long f y (tests f e)))

  pub writable-again : (room : ℕ) → length f ≤ room → write_error (problem_in f) room ≡ 0
  unfolding write_error first_error
  writable-again room l = let a = tests f e in rw (a.sized, a.bounded, a.threshold-range, a.coefficient-range, a.divisor_range, size_is, le-leb (length f) room l)

  pub read-then-written : (buffer : List ℕ) → length f ≤ length buffer → write_file (problem_in f) buffer ≡ record { number = 0; buffer = f ++ drop (length f) buffer }
  unfolding write_file written_by
  read-then-written buffer l = rw (writable-again (length buffer) l, file-is-written f y e, size_is)
