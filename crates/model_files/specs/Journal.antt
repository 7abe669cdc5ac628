-- Document 01, 'Journal block': one for each counted dead end.
use Rattle.std.specs.Prelude.{ℕ, ◌+◌, ◌*◌, ◌-◌, List, [], ◌∷◌, ◌++◌, ℤ, pos, get_or}
use Rattle.model_problems.specs.Lists.{tab, parts}
use Rattle.model_problems.specs.Ranges.{max_variables}
use Rattle.model_problems.specs.Constraint.{Constraint}
use Rattle.model_files.specs.Bytes.{u16_bytes, u32_bytes, i32_bytes, i32_at, sealed}
use Rattle.model_files.specs.File.{coefficient_bytes}

-- its values
pub record Record : Type 0 where
  pub count : ℕ
  pub falsified : ℕ
  pub cut_number : ℕ
  pub depth : ℕ
  pub back : ℕ
  pub cut : Constraint
  pub used : List ℕ

-- the letters DEAD
unfoldable pub record_magic : List ℕ
record_magic = 68 ∷ 69 ∷ 65 ∷ 68 ∷ []

unfoldable pub used_bytes : List ℕ → ℕ → List ℕ
used_bytes used i = u32_bytes (get_or used i 0)

-- the fields from byte 4 to byte 19
unfoldable pub record_head : Record → List ℕ
record_head r = u32_bytes r.count ++ (u32_bytes r.falsified ++ (u32_bytes r.cut_number ++ (u16_bytes r.depth ++ u16_bytes r.back)))

unfoldable pub record_content : Record → List ℕ
record_content r =
    record_magic ++ (record_head r ++
    (i32_bytes r.cut.constant ++ (parts (coefficient_bytes r.cut) 0 max_variables ++ parts (used_bytes r.used) 0 max_variables)))

-- its 512 bytes
unfoldable pub record_bytes : Record → List ℕ
record_bytes r = sealed (r.count - 1) (record_content r)

-- the cut of n coefficients that stands in a block's bytes
unfoldable pub cut_offset : ℕ
cut_offset = 20

unfoldable pub cut_coefficient : List ℕ → ℕ → ℤ
cut_coefficient b i = i32_at b (cut_offset + 4 + 4 * i)

unfoldable pub cut_in : ℕ → List ℕ → Constraint
cut_in n b = record { constant = i32_at b cut_offset; coefficients = tab (cut_coefficient b) 0 n; divisor = pos 0 }
