-- The loop's measure: each turn left counts more than the slack of any box.
use Prim.Native.Nat.{ℕ, suc, ◌+◌, ◌*◌, ◌≤◌, ◌<◌}
use native.Mathlib.Omega.{arith}
use Rattle.model_problems.specs.Ranges.{max_variables, max_slack}
use Rattle.model_walk.specs.Search.{Core, levels}
use Rattle.model_walk.specs.Move.{slack}
use Rattle.validity.proofs.Slack.{slack-most}
use Rattle.validity.proofs.States.{CoreFits}

abbrev pub step_weight : ℕ
step_weight = suc max_slack

pub core-slack : (c : Core) → CoreFits c → c.variables ≤ max_variables → slack c.deepest.box ≤ max_slack
unfolding levels
core-slack c f h = let l = f.levels.0 in slack-most c.deepest.box l.range (omega (arith, l.box))

-- what is left beside the turns stays
pub weighs-less : (x a b k l : ℕ) → a * step_weight + k < b * step_weight + l → (x + a) * step_weight + k < (x + b) * step_weight + l
weighs-less x a b k l h = omega arith
