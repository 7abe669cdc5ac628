-- `propagate::track::Track::first_improvement` meets its contract: what is left to scan gives the whole scan's answer, nothing was found yet, and of the
-- constraint at hand the variables that are not left have been passed. Assumes nothing.
use Prim.Native.Nat.{◌+◌}
use mathlib.Core.Path.{◌≡◌}
use Rattle.std.specs.Prelude.{None}
use Rattle.model_problems.specs.Lists.{tab}
use Rattle.model_walk.specs.Move.{first_improvement}
use Rattle.layout.specs.Rows.{row_at, box_of}
use Rattle.state.specs.View.{kept_cuts}
use Rattle.propagate.specs.Tracked.{Tracked}
use Rattle.propagate.proofs.Scans.{improved_from}
use Rattle.propagate.proofs.Passed.{Passed}
use Rattle.propagate.proofs.track.Track.first_improvement.Given as goal

abbrev pub invariant-scan : goal.invariant-scan
invariant-scan l = record {
  none : l.hit ≡ None;
  whole : first_improvement 0 (tab (row_at l.kept.n l.kept.rows.now) 0 (l.kept.m + kept_cuts l.kept.made)) (box_of l.kept.n l.level.lower l.level.upper) ≡ improved_from l.kept.n (l.kept.m + kept_cuts l.kept.made) l.kept.rows.now l.level.lower l.level.upper l.j;
  tracked : Tracked l.kept.n l.kept.rows.now l.level.lower l.level.upper l.self.activities l.self.reaches (l.kept.m + kept_cuts l.kept.made);
  activities : l.self.activities ≡ l.initial.self.activities;
}

abbrev pub invariant-loop-left : goal.invariant-loop-left
invariant-loop-left l = record { none : l.hit ≡ None; passed : Passed l.kept.n l.kept.rows.now l.level.lower l.level.upper l.j l.far l.left }

abbrev pub decreases-loop-left : goal.decreases-loop-left
decreases-loop-left l = l.left
