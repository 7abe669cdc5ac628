-- `propagate::track::Track::measure` meets its contract: the constraints passed are tracked. Assumes nothing.
use Rattle.propagate.specs.Tracked.{Tracked}
use Rattle.propagate.proofs.track.Track.measure.Given as goal

abbrev pub invariant-loop-j : goal.invariant-loop-j
invariant-loop-j l = Tracked l.kept.n l.kept.rows.now l.level.lower l.level.upper l.self.activities l.self.reaches l.j
