-- Masks of variables: bit i of a mask stands for variable i. A scan passes over the variables whose bit is 0.
use Rattle.std.specs.Prelude.{ℕ, ◌+◌, ◌*◌, ◌/◌, ◌%◌, ◌^◌, ◌<◌, List, ◌≡◌, ℤ, pos, get_or, length, ◌≤ℤ◌}
use Rattle.model_problems.specs.Ranges.{max_constraints, max_cuts}
use Rattle.layout.specs.Rows.{row_length, number_in, cell}

unfoldable pub bit : ℕ → ℕ → ℕ
bit mask i = mask / 2 ^ i % 2

-- the constraint whose row starts at `start` mentions no variable but those of the mask
pub record Mentions (n : ℕ) (rows : List ℤ) (start mask : ℕ) : Type 0 where
  pub few : mask < 2 ^ n
  pub rest : (i : ℕ) → i < n → bit mask i ≡ 0 → cell rows start i ≡ pos 0

-- no variable is open but those of the mask
pub record Opens (n : ℕ) (lower upper : List ℤ) (mask : ℕ) : Type 0 where
  pub few : mask < 2 ^ n
  pub rest : (i : ℕ) → i < n → bit mask i ≡ 0 → number_in upper i ≤ℤ number_in lower i

-- the masks of the first `kept` constraints: of the m inputs, and of the cuts after them
pub record Masked (n m kept : ℕ) (rows : List ℤ) (inputs cuts : List ℕ) : Type 0 where
  pub input_room : length inputs ≡ max_constraints
  pub cut_room : length cuts ≡ max_cuts
  pub input : (j : ℕ) → j < m → Mentions n rows (row_length * j) (get_or inputs j 0)
  pub cut : (p : ℕ) → m + p < kept → Mentions n rows (row_length * (m + p)) (get_or cuts p 0)
