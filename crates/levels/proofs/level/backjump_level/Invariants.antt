-- `levels::level::backjump_level` meets its contract: every level passed falsifies the constraint, and where one does not, none above it does. Assumes
-- nothing.
use Prim.Native.Nat.{ℕ, ◌+◌, ◌≤◌, ◌<◌}
use mathlib.Core.Bool.{true}
use mathlib.Core.List.{List}
use mathlib.Core.Path.{◌≡◌}
use Rattle.model_problems.specs.Constraint.{Constraint, falsified}
use Rattle.layout.specs.Rows.{divided_at}
use Rattle.state.specs.declared.Level.{Level}
use Rattle.levels.specs.Level.{box_at}
use Rattle.levels.proofs.level.backjump_level.Given as goal

-- the levels deeper than `level` were tested, and falsify the constraint
pub record Passed (k : Constraint) (n depth : ℕ) (levels : List Level) (level tested : ℕ) : Type 0 where
  pub count : tested + level ≡ depth
  pub falsifies : (t : ℕ) → level < t → t ≤ depth → falsified k (box_at n levels t) ≡ true

abbrev pub invariant-loop-level : goal.invariant-loop-level
invariant-loop-level l = Passed (divided_at l.n l.cut 0 l.q) l.n l.depth l.levels l.level l.tested
