-- What an improvement means: the model's move, and where the new bound lies.
use Rattle.std.specs.Prelude.{ℕ, suc, ℤ, pos, negsuc, ◌≤ℤ◌, ◌<ℤ◌, Option, Some, None}
use Rattle.std.proofs.Math.Option as math
use Rattle.model_problems.specs.Constraint.{implied_upper, implied_lower}
use Rattle.model_walk.specs.Move.{Move, new_lower, new_upper}
use Rattle.linear.specs.declared.activity.Bound.{Bound}
use Rattle.linear.specs.declared.activity.Bound.TheVariants.{Lower, Upper}

-- the bound that a constraint of activity p without the variable implies for it; a is its coefficient, not 0
unfoldable pub implied_of : ℤ → ℤ → Bound
implied_of p (pos a) = Upper (implied_upper p a)
implied_of p (negsuc a) = Lower (implied_lower p (suc a))

-- the move of constraint j that sets this bound of variable i
unfoldable pub move_at : ℕ → ℕ → Bound → Move
move_at j i (Lower v) = new_lower j i v
move_at j i (Upper v) = new_upper j i v

-- the move that constraint j makes at variable i
unfoldable pub move_of : ℕ → ℕ → Option Bound → math.Option Move
move_of j i (Some b) = math.some (move_at j i b)
move_of j i None = math.none

-- the new bound is strictly better, and does not cross the other one
abbrev pub Improves : ℤ → ℤ → Bound → Type 0
Improves lower upper (Lower v) = (lower <ℤ v) × (v ≤ℤ upper)
Improves lower upper (Upper v) = (lower ≤ℤ v) × (v <ℤ upper)
