-- What the tests on a file's bytes say, in the model's words: errors 1 to 4 and 7. The premises of a law are the facts that stand where the code returns.
use Prim.Native.Nat.{ℕ, ◌+◌, ◌*◌, ◌/◌, ◌%◌, ◌-◌, ◌<◌, ◌≤◌}
use native.Mathlib.Omega.{arith}
use native.Mathlib.Numerals.{add-one}
use mathlib.Core.Bool.{Bool, ◌&&◌}
use mathlib.Core.Path.{◌≡◌, refl, sym, ap, ◌∙◌}
use mathlib.Core.List.{List}
use lib.Dec.{eqb, leb}
use lib.ListN.{take, drop, length}
use borrow.Author.Tests.{le-leb, lt-leb, eq-eqb, eqb-true}
use Rattle.model_files.specs.Bytes.{Bytes, u32_at, u32_bytes, u16_bytes, block_length, check_offset, block, checksum, zero_between, zero_from}
use Rattle.model_files.specs.File.{magic, variables_in, constraints_in, budget_in, bounds_offset, coefficient_offset, divisor_offset, threshold_offset, problem_in, whole_blocks, check_matches, checks_match, magic_matches, block_count_matches, block_padded, constraint_padded, head_padded, padding_zero}
use Rattle.model_problems.specs.Lists.{tab, all_of}
use Rattle.model_problems.specs.Problem.{sizes_in_range}
use Rattle.lists.proofs.AllOf.{all_of-tab}
use Rattle.lists.proofs.AllPairs.{pairs-equal, pairs-refl}
use Rattle.lists.proofs.Bools.{same_test}
use Rattle.format.proofs.AcceptedShape.{variables-in, constraints-in}
use Rattle.format.proofs.ByteLaws.{u32-read, u32-written}
use Rattle.fields.specs.Fields.{sizes_match}
use Rattle.layout.specs.Sizes.{sizes_fit}
use Rattle.layout.proofs.Limits.{sizes-fit}

-- ---- 1
module _ (f : List ℕ) where
  pub whole-short : length f < block_length → leb block_length (length f) ≡ whole_blocks f
  unfolding whole_blocks
  whole-short h = rw (lt-leb block_length (length f) h)

  pub whole_long : block_length ≤ length f → eqb (length f % block_length) 0 ≡ whole_blocks f
  unfolding whole_blocks
  whole_long h = rw (le-leb block_length (length f) h)

-- ---- block k as the code takes it, from 512 · k to 512 · k + 512
pub block-is : (f : List ℕ) (k : ℕ) {s e : ℕ} → (s ≡ block_length * k) × (e ≡ block_length * k + block_length) → take (e - s) (drop s f) ≡ block f k
unfolding block
block-is f k (p, q) = let e : block_length * k + block_length - block_length * k ≡ block_length = omega arith in rw (p, q, e)

-- ---- 3: the letters as a number of four bytes
abbrev pub magic_number : ℕ
magic_number = 0x4555_4C42

pub magic-bytes : u32_bytes magic_number ≡ magic
unfolding u32_bytes u16_bytes magic
magic-bytes = refl

pub magic-test : (f : List ℕ) (r : ℕ) → Bytes f → block_length ≤ length f → r ≡ u32_at f 0 → eqb r magic_number ≡ magic_matches f
unfolding magic_matches
magic-test f r y l e =
    same_test (eqb r magic_number) (magic_matches f)
    (λ t. let w : take 4 f ≡ magic = sym (u32-written f y 0 (omega arith)) ∙ ap u32_bytes (sym e ∙ eqb-true r magic_number t) ∙ magic-bytes in
    rw w (pairs-refl eqb (λ x. eq-eqb x x refl) magic))
    (λ t. eq-eqb r magic_number (e ∙ u32-read f 0 magic_number (omega arith) (pairs-equal eqb eqb-true (take 4 f) magic t ∙ sym magic-bytes)))

-- ---- 4
module _ (f : List ℕ) (n m b : ℕ) (en : n ≡ variables_in f) (em : m ≡ constraints_in f) (eb : b ≡ budget_in f) (r : Bool) (t : r ≡ sizes_fit n m b) where
  sizes-test : sizes_in_range (problem_in f) ≡ r
  unfolding problem_in
  sizes-test = sym (t ∙ sizes-fit n m b (problem_in f) (variables-in f ∙ sym en) (constraints-in f ∙ sym em) (sym eb))

  pub sizes-is : (r && eqb (length f) (block_length * (m + 1))) ≡ sizes_match f
  unfolding sizes_match block_count_matches
  sizes-is = rw (sizes-test, ← em, add-one m)

-- ---- 2
pub check-is : (f b : List ℕ) (k : ℕ) → b ≡ block f k → eqb (checksum k b) (u32_at b check_offset) ≡ check_matches f k
unfolding check_matches
check-is f b k e = rw e

pub checks-are : (f : List ℕ) → all_of (check_matches f) (tab (λ k. k) 0 (length f / block_length)) ≡ checks_match f
unfolding checks_match
checks-are f = all_of-tab (check_matches f) (λ k. k) 0 (length f / block_length)

-- ---- 7: the block b before its divisor and after it, or its thresholds
pub padded-is : (f b : List ℕ) (j n a : ℕ) (r t : Bool) → b ≡ block f (j + 1) → n ≡ variables_in f → a ≡ 4 * (n + 1) → r ≡ zero_between a divisor_offset b → t ≡ zero_from (divisor_offset + 4) b →
    (r && t) ≡ constraint_padded f j
unfolding constraint_padded block_padded coefficient_offset
padded-is f b j n a r t eb en ea er et =
    let z : 4 * (n + 1) ≡ 4 + 4 * n = omega arith in
    rw (er, et, eb, ea, z, en, add-one j)

pub head-is : (f b : List ℕ) (n a d x : ℕ) (r t : Bool) → b ≡ block f 0 → n ≡ variables_in f → a ≡ bounds_offset n → d ≡ threshold_offset 0 → x ≡ threshold_offset n → r ≡ zero_between a d b → t ≡ zero_from x b →
    (r && t) ≡ head_padded (variables_in f) (block f 0)
unfolding head_padded
head-is f b n a d x r t eb en ea ed ex er et = rw (er, et, eb, ea, ed, ex, en)

pub padding-is : (f : List ℕ) (r t : Bool) → r ≡ head_padded (variables_in f) (block f 0) → t ≡ all_of (constraint_padded f) (tab (λ j. j) 0 (constraints_in f)) → (r && t) ≡ padding_zero f
unfolding padding_zero
padding-is f r t e h = rw (e, h, all_of-tab (constraint_padded f) (λ j. j) 0 (constraints_in f))
