-- The sizes and ranges of documents 01 and 02, each once.
use Rattle.std.specs.Prelude.{ℕ, ◌*◌, ◌^◌, Bool, ◌&&◌, ℤ, pos, neg_ℤ}
use Rattle.std.specs.Int.Signed.{le_z}

-- quantities: 1 to 32
abbrev pub max_variables : ℕ
max_variables = 32

-- lines: 0 to 64
abbrev pub max_constraints : ℕ
max_constraints = 64

-- the newest cuts that are kept
abbrev pub max_cuts : ℕ
max_cuts = 64

-- the budget of dead ends: 0 to 1,000,000,000
abbrev pub max_budget : ℕ
max_budget = 1_000_000_000

-- N12's limits and bounds: −2^24 to 2^24
abbrev pub max_bound : ℕ
max_bound = 2 ^ 24

-- the sum of all hi − lo: 0 to 2^30
abbrev pub max_slack : ℕ
max_slack = 2 * max_bound * max_variables

-- coefficients and constants: −2^30 to 2^30
abbrev pub max_coefficient : ℕ
max_coefficient = 2 ^ 30

-- N1's divisors: 2 to 2^20
abbrev pub max_divisor : ℕ
max_divisor = 2 ^ 20

-- N5's count of bounds set, in a walk that a call takes: 0 to 2^62
abbrev pub max_propagations : ℕ
max_propagations = 2 ^ 62

-- −b ≤ z ≤ b
unfoldable pub within : ℕ → ℤ → Bool
within b z = le_z (neg_ℤ (pos b)) z && le_z z (pos b)
