-- `propagate::track::Track::shift` meets its contract: the activities passed are changed and not above 0, and the others are as they were. Assumes nothing.
use mathlib.Core.Path.{◌≡◌}
use Rattle.propagate.proofs.Tracking.{Shifting}
use Rattle.propagate.proofs.track.Track.shift.Given as goal

abbrev pub invariant-loop-j : goal.invariant-loop-j
invariant-loop-j l = record {
  shifting : Shifting l.i l.rise l.fall l.kept.rows.now l.initial.self.activities l.self.activities l.j;
  reaches : l.self.reaches ≡ l.initial.self.reaches;
}
