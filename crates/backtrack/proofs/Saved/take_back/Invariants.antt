-- `backtrack::Saved::take_back` meets its contract: the constraints passed are tracked. Assumes nothing.
use Rattle.propagate.specs.Tracked.{Tracked}
use Rattle.backtrack.proofs.Saved.take_back.Given as goal

abbrev pub invariant-loop-j : goal.invariant-loop-j
invariant-loop-j l = Tracked l.kept.n l.kept.rows.now l.level.lower l.level.upper l.track.activities l.track.reaches l.j
