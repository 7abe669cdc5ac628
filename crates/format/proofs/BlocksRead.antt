-- The fields of a written block, read: a constraint's numbers, and the head's sizes, bounds and thresholds.
use Prim.Native.Nat.{ℕ, ◌+◌, ◌*◌, ◌^◌, ◌<◌, ◌≤◌}
use native.Mathlib.Omega.{arith}
use mathlib.Core.Bool.{true}
use mathlib.Core.Path.{◌≡◌, refl, sym, ◌∙◌}
use mathlib.Core.List.{List, [], ◌++◌, append_assoc}
use lib.IntN.{pos}
use lib.ListN.{take, drop, length}
use Rattle.model_problems.specs.Lists.{tab, parts, all, all_of}
use Rattle.model_problems.specs.Ranges.{max_variables, max_bound, max_coefficient, within}
use Rattle.model_problems.specs.Constraint.{Constraint, no_bounds, coefficient_at, lower_at, upper_at, in_range, divisor_in_range}
use Rattle.model_problems.specs.Threshold.{threshold_at}
use Rattle.model_problems.specs.Problem.{Problem, variables, bounds_in_range, domain_in_range, thresholds_in_range}
use Rattle.model_files.specs.Bytes.{u16_at, u32_at, i32_at, u16_bytes, u32_bytes, i32_bytes, padded_to, padded, sealed}
use Rattle.model_files.specs.File.{magic, bounds_offset, threshold_offset, coefficient_offset, divisor_offset, coefficient_in, constraint_in, block_padded, head_padded, bounds_bytes, threshold_bytes, limits_bytes, head_bytes, coefficient_bytes, numbers_bytes, constraint_bytes}
use Rattle.integer.specs.Size.{mag-abs}
use Rattle.lists.proofs.Bools.{and-true}
use Rattle.lists.proofs.Tab.{tab-is}
use Rattle.lists.proofs.Parts.{part_of}
use Rattle.lists.proofs.AllOf.{all_of-get_d}
use Rattle.format.proofs.Within.{within-mag, divisor-nat_abs, threshold-small}
use Rattle.format.proofs.ByteLaws.{length-i32, place, halves, u16-read, u32-read, i32-read}
use Rattle.format.proofs.BlockLaws.{length-padded-to, end, after, first-stands, second-stands, two-zero}
use Rattle.format.proofs.FileShape.{length-coefficient, length-numbers, length-bounds, length-threshold, length-limits, length-thresholds}

-- ---- a constraint
module _ (n q : ℕ) (k : Constraint) where
  -- what its block has after its coefficients
  rest : List ℕ
  rest = after q divisor_offset (numbers_bytes n k) (i32_bytes k.divisor)

  constraint-stands : sealed q (constraint_bytes n k) ≡ i32_bytes k.constant ++ (parts (coefficient_bytes k) 0 n ++ rest)
  unfolding constraint_bytes numbers_bytes rest
  constraint-stands =
      first-stands q divisor_offset (numbers_bytes n k) (i32_bytes k.divisor) ∙ append_assoc (i32_bytes k.constant) (parts (coefficient_bytes k) 0 n) rest

  constant-read : within max_coefficient k.constant ≡ true → i32_at (sealed q (constraint_bytes n k)) 0 ≡ k.constant
  constant-read w =
      let c = i32_bytes k.constant in
      i32-read (sealed q (constraint_bytes n k)) 0 k.constant (within-mag max_coefficient (2 ^ 31) k.constant (omega arith) w)
      (rw constraint-stands (place [] c (parts (coefficient_bytes k) 0 n ++ rest) 0 4 refl (length-i32 k.constant)))

  coefficient-stands : (i : ℕ) → i < n → take 4 (drop (4 + 4 * i) (sealed q (constraint_bytes n k))) ≡ coefficient_bytes k i
  coefficient-stands i l =
      rw constraint-stands
      (rw (length-i32 k.constant) at (part_of 4 (coefficient_bytes k) n (i32_bytes k.constant) rest i (λ j m. length-coefficient k j) l))

  coefficient-read : (i : ℕ) → i < n → within max_coefficient (coefficient_at k i) ≡ true → coefficient_in (sealed q (constraint_bytes n k)) i ≡ coefficient_at k i
  unfolding coefficient_in coefficient_offset coefficient_bytes
  coefficient-read i l w =
      i32-read (sealed q (constraint_bytes n k)) (4 + 4 * i) (coefficient_at k i) (within-mag max_coefficient (2 ^ 31) (coefficient_at k i) (omega arith) w) (coefficient-stands i l)

  module _ (few : n ≤ max_variables) where
    divisor-read : divisor_in_range k ≡ true → i32_at (sealed q (constraint_bytes n k)) divisor_offset ≡ k.divisor
    unfolding constraint_bytes divisor_in_range
    divisor-read d =
        let c = numbers_bytes n k in
        let z = i32_bytes k.divisor in
        i32-read (sealed q (constraint_bytes n k)) divisor_offset k.divisor (omega (arith, mag-abs k.divisor, divisor-nat_abs k.divisor d))
        (rw (second-stands q divisor_offset c z)
        (place (padded_to divisor_offset c) z (end q (padded_to divisor_offset c ++ z)) divisor_offset 4 (length-padded-to divisor_offset c (omega (arith, length-numbers n k))) (length-i32 k.divisor)))

    -- its bytes between the fields
    pub constraint-padded : block_padded n (sealed q (constraint_bytes n k)) ≡ true
    unfolding block_padded coefficient_offset constraint_bytes
    constraint-padded =
        two-zero q divisor_offset (numbers_bytes n k) (i32_bytes k.divisor) (4 + 4 * n) 4 (length-numbers n k) (length-i32 k.divisor) (omega arith) (omega arith)

pub constraint-read : (n q : ℕ) (k : Constraint) → n ≤ max_variables → length k.coefficients ≡ n → in_range k ≡ true → divisor_in_range k ≡ true →
    constraint_in n (sealed q (constraint_bytes n k)) ≡ k
unfolding constraint_in in_range coefficient_at
constraint-read n q k few e r d =
    let b = and-true (within max_coefficient k.constant) (all_of (within max_coefficient) k.coefficients) r in
    let s = sealed q (constraint_bytes n k) in
    let cs : tab (coefficient_in (sealed q (constraint_bytes n k))) 0 n ≡ k.coefficients =
    tab-is k.coefficients n (coefficient_in s) (pos 0) e
    (λ i l. sym (coefficient-read n q k i l (all_of-get_d (within max_coefficient) k.coefficients i (pos 0) b.1 (omega arith)))) in
    λ i. record { constant = constant-read n q k b.0 i; coefficients = cs i; divisor = divisor-read n q k few d i }

-- ---- the head
abbrev pub head_block : Problem → List ℕ
head_block p = sealed 0 (head_bytes p)

front : Problem → List ℕ
front p = magic ++ (u16_bytes (variables p) ++ (u16_bytes (length p.constraints) ++ u32_bytes p.budget))

-- what it has after its bounds
after_bounds : Problem → List ℕ
after_bounds p = after 0 (threshold_offset 0) (limits_bytes p) (parts (threshold_bytes p) 0 (variables p))

length_front : (p : Problem) → length (front p) ≡ 12
unfolding front magic u16_bytes u32_bytes
length_front p = refl

module _ (p : Problem) where
  -- the letters and the sizes
  pub magic-stands : take 4 (head_block p) ≡ magic
  unfolding sealed padded padded_to head_bytes limits_bytes magic
  magic-stands = refl

  pub variables-read : variables p < 65536 → u16_at (head_block p) 4 ≡ variables p
  unfolding sealed padded padded_to head_bytes limits_bytes magic u16_bytes
  variables-read l = u16-read (head_block p) 4 (variables p) l refl

  pub constraints-read : length p.constraints < 65536 → u16_at (head_block p) 6 ≡ length p.constraints
  unfolding sealed padded padded_to head_bytes limits_bytes magic u16_bytes
  constraints-read l = u16-read (head_block p) 6 (length p.constraints) l refl

  pub budget-read : p.budget < 2 ^ 32 → u32_at (head_block p) 8 ≡ p.budget
  unfolding sealed padded padded_to head_bytes limits_bytes magic u16_bytes u32_bytes
  budget-read l = u32-read (head_block p) 8 p.budget l refl

  -- the bounds of variable i
  bounds-stand : head_block p ≡ front p ++ (parts (bounds_bytes p) 0 (variables p) ++ after_bounds p)
  unfolding head_bytes limits_bytes front after_bounds
  bounds-stand = first-stands 0 (threshold_offset 0) (limits_bytes p) (parts (threshold_bytes p) 0 (variables p)) ∙ simp append_assoc

  pair-stands : (i : ℕ) → i < variables p → take 8 (drop (12 + 8 * i) (head_block p)) ≡ bounds_bytes p i
  pair-stands i l =
      rw bounds-stand (rw (length_front p) at (part_of 8 (bounds_bytes p) (variables p) (front p) (after_bounds p) i (λ j m. length-bounds p j) l))

  -- its threshold
  threshold-stands : variables p ≤ max_variables → (i : ℕ) → i < variables p → take 4 (drop (268 + 4 * i) (head_block p)) ≡ threshold_bytes p i
  unfolding head_bytes threshold_offset
  threshold-stands few i l =
      let c = limits_bytes p in
      let ts = parts (threshold_bytes p) 0 (variables p) in
      let first : length (padded_to 268 (limits_bytes p)) ≡ 268 = length-padded-to 268 c (omega (arith, length-limits p)) in
      rw (second-stands 0 268 c ts)
      (rw first at (part_of 4 (threshold_bytes p) (variables p) (padded_to 268 c) (end 0 (padded_to 268 c ++ ts)) i (λ j m. length-threshold p j) l))

  -- its bytes between the fields
  pub head-padded : variables p ≤ max_variables → head_padded (variables p) (head_block p) ≡ true
  unfolding head_padded head_bytes bounds_offset threshold_offset
  head-padded few =
      let n = variables p in
      two-zero 0 268 (limits_bytes p) (parts (threshold_bytes p) 0 n) (12 + 8 * n) (4 * n) (length-limits p) (length-thresholds p) (omega arith) (omega arith)

  module _ (r : domain_in_range p ≡ true) (i : ℕ) (l : i < variables p) where
    each : (take 4 (drop (12 + 8 * i) (head_block p)) ≡ i32_bytes (lower_at p.domain i)) × (take 4 (drop (12 + 8 * i + 4) (head_block p)) ≡ i32_bytes (upper_at p.domain i))
    unfolding bounds_bytes
    each =
        let lo = lower_at p.domain i in
        let hi = upper_at p.domain i in
        halves (head_block p) (i32_bytes lo) (i32_bytes hi) 4 4 (12 + 8 * i) (length-i32 lo) (length-i32 hi) (pair-stands i l)

    ranges : (within max_bound (lower_at p.domain i) ≡ true) × (within max_bound (upper_at p.domain i) ≡ true)
    unfolding domain_in_range bounds_in_range all lower_at upper_at variables
    ranges =
        let a = and-true _ _ (all_of-get_d bounds_in_range p.domain i no_bounds r l) in
        (a.0, (and-true _ _ a.1).0)

    pub lower-read : i32_at (head_block p) (12 + 8 * i) ≡ lower_at p.domain i
    lower-read =
        let z = lower_at p.domain i in i32-read (head_block p) (12 + 8 * i) z (within-mag max_bound (2 ^ 31) z (omega arith) ranges.0) each.0

    pub upper-read : i32_at (head_block p) (12 + 8 * i + 4) ≡ upper_at p.domain i
    upper-read =
        let z = upper_at p.domain i in i32-read (head_block p) (12 + 8 * i + 4) z (within-mag max_bound (2 ^ 31) z (omega arith) ranges.1) each.1

    -- the threshold
    pub threshold-read : thresholds_in_range p ≡ true → variables p ≤ max_variables → i32_at (head_block p) (268 + 4 * i) ≡ threshold_at p.thresholds i
    unfolding threshold_bytes
    threshold-read t few =
        let z = threshold_at p.thresholds i in
        i32-read (head_block p) (268 + 4 * i) z (omega (arith, mag-abs z, threshold-small p r t i l)) (threshold-stands few i l)
