-- Document 01's move 2 repeated at one level, until the next move is a conflict, a decision or the end. The model's descent goes through it: see
-- proofs/Descent.
use Rattle.std.specs.Prelude.{ℕ, zero, suc, ◌+◌, ◌*◌, List, ℤ}
use Rattle.model_problems.specs.Ranges.{max_budget, max_propagations, max_slack}
use Rattle.model_problems.specs.Constraint.{Constraint}
use Rattle.model_walk.specs.Search.{constraint, raise_lower, lower_upper}
use Rattle.model_walk.specs.Search as model
use Rattle.model_walk.specs.Move.{Move, conflict, new_lower, new_upper, decide, finish, next_move, slack}
use Rattle.state.specs.View as view
use Rattle.state.specs.declared.Level.{Level}
use Rattle.propagate.specs.declared.propagate.Propagated.{Propagated}
use Rattle.propagate.specs.Moves.{stop_of}

-- the level where propagation stops, the next move there, and how many bounds are set so far (N5)
pub record Propagation : Type 0 where
  pub level : model.Level
  pub move : Move
  pub count : ℕ

-- `number` gives the number of the kept constraint at a position
unfoldable pub propagate_by : List ℤ → Move → (ℕ → ℕ) → model.Level → ℕ → (model.Level → ℕ → Propagation) → Propagation
propagate_by ts (conflict j) number l count go = record { level = l; move = conflict j; count = count }
propagate_by ts (new_lower j i v) number l count go = go (raise_lower ts i v (constraint (number j)) l) (suc count)
propagate_by ts (new_upper j i v) number l count go = go (lower_upper ts i v (constraint (number j)) l) (suc count)
propagate_by ts (decide i) number l count go = record { level = l; move = decide i; count = count }
propagate_by ts finish number l count go = record { level = l; move = finish; count = count }

unfoldable pub propagate_for : List ℤ → ℕ → List Constraint → (ℕ → ℕ) → model.Level → ℕ → Propagation
propagate_for ts zero ks number l count = record { level = l; move = finish; count = count }
propagate_for ts (suc fuel) ks number l count = propagate_by ts (next_move ks l.box) number l count (propagate_for ts fuel ks number)

-- every bound that is set lowers the slack, so this fuel does not run out
unfoldable pub propagation : List ℤ → List Constraint → (ℕ → ℕ) → model.Level → ℕ → Propagation
propagation ts ks number l count = propagate_for ts (suc (slack l.box)) ks number l count

-- a count, and all the bounds that can still be set, are at most this: where a call may start, and a whole box for each conflict and once more
abbrev pub most_counted : ℕ
most_counted = max_propagations + suc max_budget * max_slack

-- ---- what the code gives
unfoldable pub propagation_of : ℕ → Level → Propagated → Propagation
propagation_of n l r = record { level = view.level_of n l; move = stop_of r.found; count = r.count }
