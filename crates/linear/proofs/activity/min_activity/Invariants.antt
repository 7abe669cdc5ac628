-- `linear::activity::min_activity` meets its contract: the sum, and what the variables left add, is the activity. Assumes nothing.
use Prim.Native.Nat.{◌+◌, ◌*◌}
use mathlib.Core.Path.{◌≡◌}
use lib.IntN.{◌+ℤ◌}
use Rattle.model_problems.specs.Ranges.{max_coefficient}
use Rattle.model_problems.specs.Constraint.{activity}
use Rattle.integer.specs.Size.{Within}
use Rattle.layout.specs.Rows.{constraint_at, box_of}
use Rattle.linear.specs.Ranges.{widest_term}
use Rattle.linear.proofs.Terms.{rest}
use Rattle.linear.proofs.activity.min_activity.Given as goal

abbrev pub invariant-loop-i : goal.invariant-loop-i
invariant-loop-i l = record {
  all : l.sum +ℤ rest l.n l.rows l.start l.lower l.upper l.i ≡ activity (constraint_at l.n l.rows l.start) (box_of l.n l.lower l.upper);
  size : Within (max_coefficient + l.i * widest_term) l.sum;
}
