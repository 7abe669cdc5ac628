-- Document 01, 'The plan file' and the writer, with N1's divisors and N6's thresholds: the format on bytes, its errors in the order in which they count, reading and writing.
use Rattle.std.specs.Prelude.{ℕ, zero, suc, ◌+◌, ◌*◌, ◌/◌, ◌%◌, Bool, ◌&&◌, List, [], ◌∷◌, ◌++◌, leb, eqb, ℤ, pos, get_or, take, drop, length}
use Rattle.model_problems.specs.Lists.{tab, parts, all, all_pairs}
use Rattle.model_problems.specs.Constraint.{Constraint, Bounds, lower_at, upper_at, coefficient_at}
use Rattle.model_problems.specs.Threshold.{threshold_at}
use Rattle.model_problems.specs.Problem.{Problem, variables, sizes_in_range, domain_in_range, thresholds_in_range, constraints_in_range, divisors_in_range, first_error, Result, result_of}
use Rattle.model_files.specs.Bytes.{u16_at, u32_at, i32_at, u16_bytes, u32_bytes, i32_bytes, block_length, check_offset, block, checksum, zero_between, zero_from, padded_to, sealed}

-- ---- where the fields stand
-- the letters BLUE
unfoldable pub magic : List ℕ
magic = 66 ∷ 76 ∷ 85 ∷ 69 ∷ []

-- 'n', 'm' and 'B' in the head
unfoldable pub variables_in : List ℕ → ℕ
variables_in f = u16_at f 4

unfoldable pub constraints_in : List ℕ → ℕ
constraints_in f = u16_at f 6

unfoldable pub budget_in : List ℕ → ℕ
budget_in f = u32_at f 8

-- the limits of variable i in the head
unfoldable pub bounds_offset : ℕ → ℕ
bounds_offset i = 12 + 8 * i

unfoldable pub bounds_in : List ℕ → ℕ → Bounds
bounds_in f i = record { lower = i32_at f (bounds_offset i); upper = i32_at f (bounds_offset i + 4) }

-- N6's 't', whatever n is
unfoldable pub threshold_offset : ℕ → ℕ
threshold_offset i = 268 + 4 * i

unfoldable pub threshold_in : List ℕ → ℕ → ℤ
threshold_in f i = i32_at f (threshold_offset i)

-- the coefficient of variable i in a constraint's block; its constant is at 0
unfoldable pub coefficient_offset : ℕ → ℕ
coefficient_offset i = 4 + 4 * i

-- N1's 'q', whatever n is
abbrev pub divisor_offset : ℕ
divisor_offset = 132

unfoldable pub coefficient_in : List ℕ → ℕ → ℤ
coefficient_in b i = i32_at b (coefficient_offset i)

unfoldable pub constraint_in : ℕ → List ℕ → Constraint
constraint_in n b = record { constant = i32_at b 0; coefficients = tab (coefficient_in b) 0 n; divisor = i32_at b divisor_offset }

-- constraint j, counted from 0, stands in block j + 1
unfoldable pub constraint_of : List ℕ → ℕ → Constraint
constraint_of f j = constraint_in (variables_in f) (block f (suc j))

unfoldable pub problem_in : List ℕ → Problem
problem_in f =
    record {
      domain = tab (bounds_in f) 0 (variables_in f);
      thresholds = tab (threshold_in f) 0 (variables_in f);
      constraints = tab (constraint_of f) 0 (constraints_in f);
      budget = budget_in f;
    }

-- ---- the conditions of the table, each as the test that it does not hold
-- 1, 'torn'
unfoldable pub whole_blocks : List ℕ → Bool
whole_blocks f = leb block_length (length f) && eqb (length f % block_length) 0

-- 2, 'bad check'
unfoldable pub check_matches : List ℕ → ℕ → Bool
check_matches f k = eqb (checksum k (block f k)) (u32_at (block f k) check_offset)

unfoldable pub checks_match : List ℕ → Bool
checks_match f = all (tab (check_matches f) 0 (length f / block_length))

-- 3, 'not a plan'
unfoldable pub magic_matches : List ℕ → Bool
magic_matches f = all_pairs eqb (take 4 f) magic

-- 4, 'size': the block count; n, m and B are tested on the problem
unfoldable pub block_count_matches : List ℕ → Bool
block_count_matches f = eqb (length f) (block_length * suc (constraints_in f))

-- 7, 'stray'
-- of a constraint's block: before its divisor and after it
unfoldable pub block_padded : ℕ → List ℕ → Bool
block_padded n b = zero_between (coefficient_offset n) divisor_offset b && zero_from (divisor_offset + 4) b

unfoldable pub constraint_padded : List ℕ → ℕ → Bool
constraint_padded f j = block_padded (variables_in f) (block f (suc j))

-- of the head: before its thresholds and after them
unfoldable pub head_padded : ℕ → List ℕ → Bool
head_padded n b = zero_between (bounds_offset n) (threshold_offset 0) b && zero_from (threshold_offset n) b

unfoldable pub padding_zero : List ℕ → Bool
padding_zero f = head_padded (variables_in f) (block f 0) && all (tab (constraint_padded f) 0 (constraints_in f))

-- ---- reading
unfoldable pub read_error : List ℕ → ℕ
read_error f =
    first_error (
    (1, whole_blocks f) ∷
    (2, checks_match f) ∷
    (3, magic_matches f) ∷
    (4, sizes_in_range (problem_in f) && block_count_matches f) ∷
    (5, domain_in_range (problem_in f)) ∷
    (13, thresholds_in_range (problem_in f)) ∷
    (6, constraints_in_range (problem_in f)) ∷
    (10, divisors_in_range (problem_in f)) ∷
    (7, padding_zero f) ∷
    [])

unfoldable pub read_file : List ℕ → Result Problem
read_file f = result_of (read_error f) (problem_in f)

-- ---- writing
unfoldable pub bounds_bytes : Problem → ℕ → List ℕ
bounds_bytes p i = i32_bytes (lower_at p.domain i) ++ i32_bytes (upper_at p.domain i)

unfoldable pub threshold_bytes : Problem → ℕ → List ℕ
threshold_bytes p i = i32_bytes (threshold_at p.thresholds i)

unfoldable pub limits_bytes : Problem → List ℕ
limits_bytes p =
    magic ++ (u16_bytes (variables p) ++ (u16_bytes (length p.constraints) ++ (u32_bytes p.budget ++ parts (bounds_bytes p) 0 (variables p))))

unfoldable pub head_bytes : Problem → List ℕ
head_bytes p = padded_to (threshold_offset 0) (limits_bytes p) ++ parts (threshold_bytes p) 0 (variables p)

unfoldable pub coefficient_bytes : Constraint → ℕ → List ℕ
coefficient_bytes k i = i32_bytes (coefficient_at k i)

unfoldable pub numbers_bytes : ℕ → Constraint → List ℕ
numbers_bytes n k = i32_bytes k.constant ++ parts (coefficient_bytes k) 0 n

unfoldable pub constraint_bytes : ℕ → Constraint → List ℕ
constraint_bytes n k = padded_to divisor_offset (numbers_bytes n k) ++ i32_bytes k.divisor

abbrev pub no_constraint : Constraint
no_constraint = record { constant = pos 0; coefficients = []; divisor = pos 0 }

unfoldable pub block_of : Problem → ℕ → List ℕ
block_of p zero = sealed 0 (head_bytes p)
block_of p (suc j) = sealed (suc j) (constraint_bytes (variables p) (get_or p.constraints j no_constraint))

-- the file of a problem
unfoldable pub file_of : Problem → List ℕ
file_of p = parts (block_of p) 0 (suc (length p.constraints))

unfoldable pub file_length : Problem → ℕ
file_length p = block_length * suc (length p.constraints)

-- writing into a buffer of `room` bytes; 8 is the 'short shelf'
unfoldable pub write_error : Problem → ℕ → ℕ
write_error p room =
    first_error ((4, sizes_in_range p) ∷ (5, domain_in_range p) ∷ (13, thresholds_in_range p) ∷ (6, constraints_in_range p) ∷ (10, divisors_in_range p) ∷ (8, leb (file_length p) room) ∷ [])

-- the answer's number, 0 where the file was written, and the lent buffer's bytes after the call
pub record Written : Type 0 where
  pub number : ℕ
  pub buffer : List ℕ

unfoldable pub written_by : ℕ → Problem → List ℕ → Written
written_by zero p buffer = record { number = 0; buffer = file_of p ++ drop (file_length p) buffer }
written_by (suc e) p buffer = record { number = suc e; buffer = buffer }

unfoldable pub write_file : Problem → List ℕ → Written
write_file p buffer = written_by (write_error p (length buffer)) p buffer
