-- A journal record ('Journal block') from the values it is written from: five numbers, a cut as a row of 33 numbers, and the numbers of the constraints
-- taken in, one for each variable.
use Rattle.std.specs.Prelude.{ℕ, ◌+◌, ◌*◌, ◌<◌, Bool, true, false, ◌≡◌, List, ◌++◌, ℤ, get_or, take, drop}
use Rattle.model_problems.specs.Lists.{tab, parts}
use Rattle.model_problems.specs.Ranges.{max_variables, max_coefficient}
use Rattle.model_files.specs.Bytes.{u16_bytes, u32_bytes, i32_bytes, block_length}
use Rattle.model_files.specs.File.{coefficient_bytes}
use Rattle.model_files.specs.Journal.{Record, used_bytes}
use Rattle.integer.specs.Size.{Within}
use Rattle.layout.specs.Rows.{number_in, cell, constraint_at}

-- the record of n variables
abbrev pub record_of : (n count falsified number depth back : ℕ) → List ℤ → List ℕ → Record
record_of n count falsified number depth back cut used =
    record {
      count = count;
      falsified = falsified;
      cut_number = number;
      depth = depth;
      back = back;
      cut = constraint_at n cut 0;
      used = tab (λ i. get_or used i 0) 0 n;
    }

-- ---- the parts of its content, and where they stand
-- the letters DEAD as a number, least byte first
abbrev pub magic_word : ℕ
magic_word = 1145128260

abbrev pub head_place : ℕ
head_place = 4

abbrev pub cut_place : ℕ
cut_place = 20

abbrev pub coefficients_place : ℕ
coefficients_place = 24

abbrev pub used_place : ℕ
used_place = 152

abbrev pub content_length : ℕ
content_length = 280

abbrev pub head_of : (count falsified number depth back : ℕ) → List ℕ
head_of count falsified number depth back =
    u32_bytes count ++ (u32_bytes falsified ++ (u32_bytes number ++ (u16_bytes depth ++ u16_bytes back)))

-- the first k coefficients of a cut, and the cut
abbrev pub coefficients_of : ℕ → List ℤ → List ℕ
coefficients_of k cut = parts (coefficient_bytes (constraint_at max_variables cut 0)) 0 k

abbrev pub cut_of : List ℤ → List ℕ
cut_of cut = i32_bytes (constraint_at max_variables cut 0).constant ++ coefficients_of max_variables cut

-- the first k of the numbers of the constraints taken in
abbrev pub used_of : ℕ → List ℕ → List ℕ
used_of k used = parts (used_bytes (tab (λ i. get_or used i 0) 0 max_variables)) 0 k

-- ---- the numbers of a cut are in range, those past its last variable too
pub record CutFits (cut : List ℤ) : Type 0 where
  pub constant : Within max_coefficient (number_in cut 0)
  pub coefficients : (i : ℕ) → i < max_variables → Within max_coefficient (cell cut 0 i)

-- ---- a lent buffer, before and after: where the bytes are kept they are its block `done`; all else is as before
pub record Emitted (keep : Bool) (done : ℕ) (bytes before after : List ℕ) : Type 0 where
  pub put : keep ≡ true → after ≡ take (block_length * done) before ++ (bytes ++ drop (block_length * done + block_length) before)
  pub left : keep ≡ false → after ≡ before
