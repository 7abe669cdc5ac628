-- The cut that stands in a journal block is the record's.
use Prim.Native.Nat.{ℕ, ◌+◌, ◌*◌, ◌^◌, ◌-◌, ◌<◌, ◌≤◌}
use native.Mathlib.Omega.{arith}
use mathlib.Core.Bool.{true}
use mathlib.Core.Path.{◌≡◌, refl, sym, ◌∙◌}
use mathlib.Core.List.{List, ◌++◌, append_assoc}
use lib.IntN.{pos}
use lib.Dec.{T}
use lib.ListN.{get_or, take, drop, length, replicate, length-append}
use Rattle.model_problems.specs.Lists.{tab, parts, all_of}
use Rattle.model_problems.specs.Ranges.{max_variables, max_coefficient, within}
use Rattle.model_problems.specs.Constraint.{coefficient_at, in_range}
use Rattle.model_files.specs.Bytes.{Bytes, i32_at, u16_bytes, u32_bytes, i32_bytes, block_length, check_offset, checksum, padded_to, padded, sealed}
use Rattle.model_files.specs.File.{coefficient_bytes}
use Rattle.model_files.specs.Journal.{Record, record_magic, used_bytes, record_head, record_content, record_bytes, cut_offset, cut_coefficient, cut_in}
use Rattle.lists.proofs.Bools.{true_of, and-true}
use Rattle.lists.proofs.Tab.{tab-is}
use Rattle.lists.proofs.Parts.{length-parts, part_of}
use Rattle.lists.proofs.AllOf.{all_of-get_d}
use Rattle.format.proofs.Within.{within-mag}
use Rattle.format.proofs.ByteLaws.{bytes-append, bytes-parts, bytes-u16, bytes-u32, bytes-i32, length-u32, length-i32, place, i32-read}
use Rattle.format.proofs.BlockLaws.{length-sealed, bytes-sealed}
use Rattle.format.proofs.FileShape.{length-coefficient, bytes-coefficient}

-- ---- its parts
length-used : (u : List ℕ) (i : ℕ) → length (used_bytes u i) ≡ 4
unfolding used_bytes
length-used u i = length-u32 (get_or u i 0)

-- the bytes before the cut
front : Record → List ℕ
front r = record_magic ++ record_head r

length_front : (r : Record) → length (front r) ≡ 20
unfolding front record_magic record_head u32_bytes u16_bytes
length_front r = refl

-- and the bytes after its coefficients
back : Record → List ℕ
back r =
    parts (used_bytes r.used) 0 max_variables ++
    (replicate (508 - length (record_content r)) 0 ++ u32_bytes (checksum (r.count - 1) (padded (record_content r))))

coefficients : Record → List ℕ
coefficients r = parts (coefficient_bytes r.cut) 0 max_variables

cut_stands : (r : Record) → record_bytes r ≡ front r ++ (i32_bytes r.cut.constant ++ (coefficients r ++ back r))
unfolding record_bytes sealed padded padded_to record_content front back coefficients
cut_stands r = simp append_assoc

-- ---- its length
content-fits : (r : Record) → length (record_content r) ≤ check_offset
unfolding record_content record_magic record_head u32_bytes u16_bytes i32_bytes
content-fits r =
    omega (
      arith,
      length-append (parts (coefficient_bytes r.cut) 0 32) (parts (used_bytes r.used) 0 32),
      length-parts 4 (coefficient_bytes r.cut) 32 (λ i l. length-coefficient r.cut i),
      length-parts 4 (used_bytes r.used) 32 (λ i l. length-used r.used i),
    )

pub length-record : (r : Record) → length (record_bytes r) ≡ block_length
unfolding record_bytes
length-record r = length-sealed (r.count - 1) (record_content r) (content-fits r)

-- its bytes are bytes
bytes-magic : Bytes record_magic
unfolding record_magic
bytes-magic = omega arith

bytes-used : (u : List ℕ) (i : ℕ) → Bytes (used_bytes u i)
unfolding used_bytes
bytes-used u i = bytes-u32 (get_or u i 0)

pub bytes-record : (r : Record) → Bytes (record_bytes r)
unfolding record_bytes record_content record_head
bytes-record r =
    bytes-sealed (r.count - 1) (record_content r) (search (bytes-append, bytes-magic, bytes-u16, bytes-u32, bytes-i32, bytes-parts, bytes-coefficient, bytes-used) depth 12)

-- ---- the constant and the coefficients, each where it stands
module _ (r : Record) (ranges : in_range r.cut ≡ true) where
  both : (within max_coefficient r.cut.constant ≡ true) × (all_of (within max_coefficient) r.cut.coefficients ≡ true)
  unfolding in_range
  both = and-true _ _ ranges

  constant-read : i32_at (record_bytes r) cut_offset ≡ r.cut.constant
  unfolding cut_offset
  constant-read =
      let c = r.cut.constant in
      i32-read (record_bytes r) 20 c (within-mag max_coefficient (2 ^ 31) c (omega arith) both.0)
      (rw (cut_stands r) (place (front r) (i32_bytes c) (coefficients r ++ back r) 20 4 (length_front r) (length-i32 c)))

  coefficient-stands : (i : ℕ) → i < 32 → take 4 (drop (24 + 4 * i) (record_bytes r)) ≡ coefficient_bytes r.cut i
  unfolding coefficients
  coefficient-stands i l =
      let c = i32_bytes r.cut.constant in
      let first : length (front r ++ i32_bytes r.cut.constant) ≡ 24 = length-append (front r) c ∙ omega (arith, length_front r, length-i32 r.cut.constant) in
      rw (cut_stands r, ← append_assoc (front r) c (coefficients r ++ back r), ← first)
      (part_of 4 (coefficient_bytes r.cut) 32 (front r ++ c) (back r) i (λ j m. length-coefficient r.cut j) l)

  coefficient-read : (i : ℕ) → i < 32 → i < length r.cut.coefficients → cut_coefficient (record_bytes r) i ≡ get_or r.cut.coefficients i (pos 0)
  unfolding cut_coefficient cut_offset coefficient_bytes coefficient_at
  coefficient-read i l m =
      i32-read (record_bytes r) (24 + 4 * i) (get_or r.cut.coefficients i (pos 0))
      (within-mag max_coefficient (2 ^ 31) (get_or r.cut.coefficients i (pos 0)) (omega arith) (all_of-get_d (within max_coefficient) r.cut.coefficients i (pos 0) both.1 m))
      (coefficient-stands i l)

-- a cut is an inequality: its block has no place for a divisor
pub cut-in-record : (n : ℕ) (r : Record) → n ≤ max_variables → length r.cut.coefficients ≡ n → T (in_range r.cut) → r.cut.divisor ≡ pos 0 → cut_in n (record_bytes r) ≡ r.cut
unfolding cut_in
cut-in-record n r l e t q =
    let ranges = true_of (in_range r.cut) t in
    let cs : tab (cut_coefficient (record_bytes r)) 0 n ≡ r.cut.coefficients =
    tab-is r.cut.coefficients n (cut_coefficient (record_bytes r)) (pos 0) e (λ i m. sym (coefficient-read r ranges i (omega arith) (omega arith))) in
    λ i. record { constant = constant-read r ranges i; coefficients = cs i; divisor = sym q i }
