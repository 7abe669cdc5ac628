-- Document 02's N6, 'unused, or worth printing': a variable with a threshold t may be 0 or less, or at least t; where t is 0 it may be any whole number.
use Rattle.std.specs.Prelude.{ℕ, Bool, ◌&&◌, ◌||◌, not, cond, List, ℤ, pos, get_or}
use Rattle.std.proofs.Math.IntN.{suc_ℤ}
use Rattle.std.specs.Int.Signed.{le_z, lt_z}
use Rattle.model_problems.specs.Ranges.{max_bound}
use Rattle.model_problems.specs.Constraint.{Bounds, equalℤ, none_or_from_two}

-- 't_i', 0 past the last one
unfoldable pub threshold_at : List ℤ → ℕ → ℤ
threshold_at ts i = get_or ts i (pos 0)

-- '1 to t_i − 1'
unfoldable pub in_gap : ℤ → ℤ → Bool
in_gap t x = le_z (pos 1) x && lt_z x t

-- a value that the variable may have
unfoldable pub allowed : ℤ → ℤ → Bool
allowed t x = not (in_gap t x)

-- ---- the three ways in which bounds change
-- 'a lower bound that would become 1 to t_i − 1 becomes t_i'
unfoldable pub lifted : ℤ → ℤ → ℤ
lifted t v = cond (in_gap t v) t v

-- 'an upper one 0'
unfoldable pub sunk : ℤ → ℤ → ℤ
sunk t v = cond (in_gap t v) (pos 0) v

-- the next value
unfoldable pub next_value : ℤ → ℤ → ℤ
next_value t v = lifted t (suc_ℤ v)

-- ---- tests
-- 13 does not hold: none, or 2 to hi where lo is 0
unfoldable pub threshold_fits : ℤ → Bounds → Bool
threshold_fits t b = none_or_from_two b.upper t && (equalℤ t (pos 0) || equalℤ b.lower (pos 0))

-- a threshold that a walk may carry: none, or 2 to the highest limit
unfoldable pub is_threshold : ℤ → Bool
is_threshold t = none_or_from_two (pos max_bound) t

-- no bound in the gap
unfoldable pub outside_gap : ℤ → Bounds → Bool
outside_gap t b = allowed t b.lower && allowed t b.upper
