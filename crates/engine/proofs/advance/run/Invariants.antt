-- The loop of `engine::advance::run`: wherever the turns came from, the solutions struck out, and the walk from the state after the last of them.
use Prim.Native.Nat.{ℕ}
use mathlib.Core.List.{List}
use lib.IntN.{ℤ}
use Rattle.model_walk.specs.Search as model
use Rattle.turns.proofs.Striking.{Struck}
use Rattle.engine.specs.Walk.{On, weight}
use Rattle.engine.proofs.advance.run.Given as goal

abbrev pub invariant-loop-walk : goal.invariant-loop-walk
invariant-loop-walk l =
    (base : model.Search) (limit : ℕ) (list : List ℤ) (old : List ℕ) →
    Struck base limit l.room l.given.n list l.fn.walk.left l.fn.walk.struck l.fn.solutions (λ b. On l.given b old l.keep l.fn.buffer l.fn.s l.fn.walk) →
    Struck base limit l.room l.given.n list l.walk.left l.walk.struck l.solutions (λ b. On l.given b old l.keep l.buffer l.s l.walk)

abbrev pub decreases-loop-walk : goal.decreases-loop-walk
decreases-loop-walk l = weight l.given l.room l.walk
