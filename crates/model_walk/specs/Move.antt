-- Document 01's turn: its moves 1 to 4 at the deepest level, and how far they go.
use Rattle.std.specs.Prelude.{ℕ, zero, suc, ◌+◌, cond, List, [], ◌∷◌, ℤ, pos, negsuc, nat_abs, ◌-ℤ◌}
use Rattle.std.proofs.Math.Option.{Option, none, some}
use Rattle.std.specs.Int.Signed.{lt_z}
use Rattle.model_problems.specs.Lists.{or_else, with_default}
use Rattle.model_problems.specs.Constraint.{Constraint, Bounds, Box, modulus, term, activity, falsified, implied_upper, implied_lower}
use Rattle.model_walk.specs.Search.{constraint, Core, levels, with_levels, with_deepest, kept, number_at, raise_lower, lower_upper, decide_at}

-- Constraints are named by their position among the kept ones, j, and variables by their index, i.
pub data Move : Type 0 where
  conflict : (j : ℕ) → Move
  new_lower : (j i : ℕ) (v : ℤ) → Move
  new_upper : (j i : ℕ) (v : ℤ) → Move
  decide : (i : ℕ) → Move
  finish : Move

-- ---- 1. the first falsified kept constraint
unfoldable pub first_falsified : ℕ → List Constraint → Box → Option Move
first_falsified j [] box = none
first_falsified j (k ∷ ks) box = cond (falsified k box) (some (conflict j)) (first_falsified (suc j) ks box)

-- ---- 2. the first improvement, by constraint and then by variable
-- constraint j at variable i, with coefficient a and bounds b; p is the constraint's activity without the variable
unfoldable pub improvement_at : ℕ → ℕ → ℤ → ℤ → Bounds → Option Move
improvement_at j i p (pos zero) b = none
improvement_at j i p (pos (suc a)) b =
    cond (lt_z (implied_upper p (suc a)) b.upper) (some (new_upper j i (implied_upper p (suc a)))) none
improvement_at j i p (negsuc a) b =
    cond (lt_z b.lower (implied_lower p (suc a))) (some (new_lower j i (implied_lower p (suc a)))) none

-- the variables from i on; w is the constraint's activity, less the variable's own term without it
unfoldable pub improvement_from : ℕ → ℕ → ℤ → List ℤ → Box → Option Move
improvement_from j i w [] box = none
improvement_from j i w (a ∷ cs) [] = none
improvement_from j i w (a ∷ cs) (b ∷ box) = or_else (improvement_at j i (w -ℤ term a b) a b) (improvement_from j (suc i) w cs box)

-- constraint j; a divisor constraint implies no bound
unfoldable pub improvement_by : ℕ → ℕ → Constraint → Box → Option Move
improvement_by zero j k box = improvement_from j 0 (activity k box) k.coefficients box
improvement_by (suc q) j k box = none

unfoldable pub first_improvement : ℕ → List Constraint → Box → Option Move
first_improvement j [] box = none
first_improvement j (k ∷ ks) box = or_else (improvement_by (modulus k) j k box) (first_improvement (suc j) ks box)

-- ---- 3. the first variable with L < U
unfoldable pub first_open : ℕ → Box → Option Move
first_open i [] = none
first_open i (b ∷ box) = cond (lt_z b.lower b.upper) (some (decide i)) (first_open (suc i) box)

-- ---- the next move: the first of these, else 4. the end at the solution L
unfoldable pub next_move : List Constraint → Box → Move
next_move ks box = with_default finish (or_else (first_falsified 0 ks box) (or_else (first_improvement 0 ks box) (first_open 0 box)))

-- ---- moves 2 and 3 repeated, until a conflict or the solution
-- where they end: the state there, and the position of the falsified constraint, none at the solution
pub record Stop : Type 0 where
  pub core : Core
  pub falsified : Option ℕ

-- the state after a move; 1 and 4 leave it as it is
abbrev pub moved : Move → Core → Core
moved (conflict j) c = c
moved (new_lower j i v) c = with_deepest c (raise_lower c.thresholds i v (constraint (number_at c j)) c.deepest)
moved (new_upper j i v) c = with_deepest c (lower_upper c.thresholds i v (constraint (number_at c j)) c.deepest)
moved (decide i) c = with_levels c (decide_at i c.deepest) (levels c)
moved finish c = c

unfoldable pub follow : Move → Core → (Core → Stop) → Stop
follow (conflict j) c go = record { core = c; falsified = some j }
follow (new_lower j i v) c go = go (moved (new_lower j i v) c)
follow (new_upper j i v) c go = go (moved (new_upper j i v) c)
follow (decide i) c go = go (moved (decide i) c)
follow finish c go = record { core = c; falsified = none }

-- Every bound that is set lowers the slack, Σ (U − L) of the deepest level, so a fuel above it does not run out: the case `zero` is never reached.
unfoldable pub slack : Box → ℕ
slack [] = 0
slack (b ∷ box) = nat_abs (b.upper -ℤ b.lower) + slack box

unfoldable pub descend_for : ℕ → Core → Stop
descend_for zero c = record { core = c; falsified = none }
descend_for (suc fuel) c = follow (next_move (kept c) c.deepest.box) c (descend_for fuel)

unfoldable pub descend : Core → Stop
descend c = descend_for (suc (slack c.deepest.box)) c

-- ---- N5: how many of the moves on that way are move 2, 'bounds set by lines'
unfoldable pub propagations_by : Move → Core → (Core → ℕ) → ℕ
propagations_by (conflict j) c go = 0
propagations_by (new_lower j i v) c go = suc (go (moved (new_lower j i v) c))
propagations_by (new_upper j i v) c go = suc (go (moved (new_upper j i v) c))
propagations_by (decide i) c go = go (moved (decide i) c)
propagations_by finish c go = 0

unfoldable pub propagations_for : ℕ → Core → ℕ
propagations_for zero c = 0
propagations_for (suc fuel) c = propagations_by (next_move (kept c) c.deepest.box) c (propagations_for fuel)

unfoldable pub propagations_in : Core → ℕ
propagations_in c = propagations_for (suc (slack c.deepest.box)) c
