-- What the code's answers mean: the model's moves.
use Rattle.std.specs.Prelude.{ℕ, cond, ltb, Option, Some, None}
use Rattle.std.proofs.Math.Option as math
use Rattle.model_walk.specs.Move as model
use Rattle.linear.specs.Improvement.{move_at}
use Rattle.propagate.specs.declared.track.Improvement.{Improvement}
use Rattle.propagate.specs.declared.propagate.Found.{Found}
use Rattle.propagate.specs.declared.propagate.Found.TheVariants.{Conflict, Decide, Finish}

-- what the scan for an improvement found
unfoldable pub found_of : Option Improvement → math.Option model.Move
found_of (Some r) = math.some (move_at r.constraint r.variable r.bound)
found_of None = math.none

-- what the scan for an open variable found
unfoldable pub open_of : Option ℕ → math.Option model.Move
open_of (Some i) = math.some (model.decide i)
open_of None = math.none

-- what a scan of `count` places found that ended at place p: a move there, nothing where p is `count`
unfoldable pub hit_at : (ℕ → model.Move) → ℕ → ℕ → math.Option model.Move
hit_at move count p = cond (ltb p count) (math.some (move p)) math.none

-- where propagation stopped
unfoldable pub stop_of : Found → model.Move
stop_of (Conflict j) = model.conflict j
stop_of (Decide i) = model.decide i
stop_of Finish = model.finish
