-- The parts of a problem's file: their lengths, that they are bytes, and that block k stands in place k.
use Prim.Native.Nat.{ℕ, zero, suc, ◌+◌, ◌*◌, ◌<◌, ◌≤◌}
use native.Mathlib.Omega.{arith}
use native.Mathlib.Nat.{zero-add}
use mathlib.Core.Path.{◌≡◌, ◌∙◌}
use mathlib.Core.List.{[], append-nil}
use lib.ListN.{get_or, length, length-append}
use Rattle.model_problems.specs.Lists.{parts}
use Rattle.model_problems.specs.Ranges.{max_variables}
use Rattle.model_problems.specs.Constraint.{Constraint, coefficient_at, lower_at, upper_at}
use Rattle.model_problems.specs.Problem.{Problem, variables}
use Rattle.model_files.specs.Bytes.{Bytes, u16_bytes, u32_bytes, i32_bytes, block_length, check_offset, block}
use Rattle.model_problems.specs.Threshold.{threshold_at}
use Rattle.model_files.specs.File.{magic, threshold_offset, divisor_offset, bounds_bytes, threshold_bytes, limits_bytes, head_bytes, coefficient_bytes, numbers_bytes, constraint_bytes, no_constraint, block_of, file_of, file_length}
use Rattle.lists.proofs.Parts.{length-parts, part_of}
use Rattle.format.proofs.ByteLaws.{bytes-append, bytes-parts, bytes-u16, bytes-u32, bytes-i32, length-i32}
use Rattle.format.proofs.BlockLaws.{length_two, bytes-padded-to, length-sealed, bytes-sealed}

-- ---- a constraint's block
pub length-coefficient : (k : Constraint) (i : ℕ) → length (coefficient_bytes k i) ≡ 4
unfolding coefficient_bytes
length-coefficient k i = length-i32 (coefficient_at k i)

pub bytes-coefficient : (k : Constraint) (i : ℕ) → Bytes (coefficient_bytes k i)
unfolding coefficient_bytes
bytes-coefficient k i = bytes-i32 (coefficient_at k i)

pub length-numbers : (n : ℕ) (k : Constraint) → length (numbers_bytes n k) ≡ 4 + 4 * n
unfolding numbers_bytes
length-numbers n k =
    length-append (i32_bytes k.constant) (parts (coefficient_bytes k) 0 n) ∙
    omega (arith, length-i32 k.constant, length-parts 4 (coefficient_bytes k) n (λ i l. length-coefficient k i))

pub length-constraint : (n : ℕ) (k : Constraint) → n ≤ max_variables → length (constraint_bytes n k) ≡ divisor_offset + 4
unfolding constraint_bytes
length-constraint n k few =
    length_two divisor_offset (numbers_bytes n k) (i32_bytes k.divisor) 4 (omega (arith, length-numbers n k)) (length-i32 k.divisor)

bytes-numbers : (n : ℕ) (k : Constraint) → Bytes (numbers_bytes n k)
unfolding numbers_bytes
bytes-numbers n k = search (bytes-append, bytes-i32, bytes-parts, bytes-coefficient)

pub bytes-constraint : (n : ℕ) (k : Constraint) → Bytes (constraint_bytes n k)
unfolding constraint_bytes
bytes-constraint n k = search (bytes-append, bytes-padded-to, bytes-i32, bytes-numbers)

-- ---- the head
pub length-bounds : (p : Problem) (i : ℕ) → length (bounds_bytes p i) ≡ 8
unfolding bounds_bytes
length-bounds p i =
    length-append (i32_bytes (lower_at p.domain i)) (i32_bytes (upper_at p.domain i)) ∙
    omega (arith, length-i32 (lower_at p.domain i), length-i32 (upper_at p.domain i))

bytes-bounds : (p : Problem) (i : ℕ) → Bytes (bounds_bytes p i)
unfolding bounds_bytes
bytes-bounds p i = search (bytes-append, bytes-i32)

pub length-threshold : (p : Problem) (i : ℕ) → length (threshold_bytes p i) ≡ 4
unfolding threshold_bytes
length-threshold p i = length-i32 (threshold_at p.thresholds i)

bytes-threshold : (p : Problem) (i : ℕ) → Bytes (threshold_bytes p i)
unfolding threshold_bytes
bytes-threshold p i = bytes-i32 (threshold_at p.thresholds i)

bytes-magic : Bytes magic
unfolding magic
bytes-magic = omega arith

pub length-limits : (p : Problem) → length (limits_bytes p) ≡ 12 + 8 * variables p
unfolding limits_bytes magic u16_bytes u32_bytes
length-limits p = omega (arith, length-parts 8 (bounds_bytes p) (variables p) (λ i l. length-bounds p i))

pub length-thresholds : (p : Problem) → length (parts (threshold_bytes p) 0 (variables p)) ≡ 4 * variables p
length-thresholds p = length-parts 4 (threshold_bytes p) (variables p) (λ i l. length-threshold p i)

length-head : (p : Problem) → variables p ≤ max_variables → length (head_bytes p) ≡ 268 + 4 * variables p
unfolding head_bytes threshold_offset
length-head p few =
    length_two 268 (limits_bytes p) (parts (threshold_bytes p) 0 (variables p)) (4 * variables p) (omega (arith, length-limits p)) (length-thresholds p)

bytes-limits : (p : Problem) → Bytes (limits_bytes p)
unfolding limits_bytes
bytes-limits p = search (bytes-append, bytes-magic, bytes-u16, bytes-u32, bytes-parts, bytes-bounds) depth 8

bytes-head : (p : Problem) → Bytes (head_bytes p)
unfolding head_bytes
bytes-head p = search (bytes-append, bytes-padded-to, bytes-limits, bytes-parts, bytes-threshold)

-- ---- the blocks and the file
bytes-block-of : (p : Problem) (k : ℕ) → Bytes (block_of p k)
unfolding block_of
bytes-block-of p zero = bytes-sealed 0 (head_bytes p) (bytes-head p)
bytes-block-of p (suc j) =
    let k = get_or p.constraints j no_constraint in bytes-sealed (suc j) (constraint_bytes (variables p) k) (bytes-constraint (variables p) k)

pub bytes-file : (p : Problem) → Bytes (file_of p)
unfolding file_of
bytes-file p = bytes-parts (block_of p) 0 (suc (length p.constraints)) (bytes-block-of p)

module _ (p : Problem) (few : variables p ≤ max_variables) where
  pub head-fits : length (head_bytes p) ≤ check_offset
  head-fits = omega (arith, length-head p few)

  pub constraint-fits : (k : Constraint) → length (constraint_bytes (variables p) k) ≤ check_offset
  constraint-fits k = omega (arith, length-constraint (variables p) k few)

  pub length-block-of : (k : ℕ) → length (block_of p k) ≡ block_length
  unfolding block_of
  length-block-of zero = length-sealed 0 (head_bytes p) head-fits
  length-block-of (suc j) =
      let k = get_or p.constraints j no_constraint in length-sealed (suc j) (constraint_bytes (variables p) k) (constraint-fits k)

  pub length-file : length (file_of p) ≡ file_length p
  unfolding file_of file_length
  length-file = length-parts 512 (block_of p) (suc (length p.constraints)) (λ k l. length-block-of k)

  pub block-of-file : (k : ℕ) → k < suc (length p.constraints) → block (file_of p) k ≡ block_of p k
  unfolding block file_of
  block-of-file k l =
      let m = suc (length p.constraints) in
      let e : 0 + 512 * k ≡ 512 * k = zero-add (512 * k) in
      rw (← e, ← append-nil (parts (block_of p) 0 m)) (part_of 512 (block_of p) m [] [] k (λ j h. length-block-of j) l)
