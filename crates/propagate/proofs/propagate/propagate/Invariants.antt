-- `propagate::propagate::propagate` meets its contract: `Looping` has the invariant, and `Steps` what a bound that is set keeps. Assumes nothing.
use Rattle.model_walk.specs.Move.{slack}
use Rattle.layout.specs.Rows.{box_of}
use Rattle.propagate.specs.Apart.{kept_over}
use Rattle.propagate.proofs.Looping.{Loop}
use Rattle.propagate.proofs.propagate.propagate.Given as goal

abbrev pub invariant-loop-falsified : goal.invariant-loop-falsified
invariant-loop-falsified l =
    let k = l.kept in
    Loop l.thresholds (kept_over k.n k.m k.made k.rows.now l.divided.lines l.divided.divisors) k.n k.m k.made k.rows.now l.«open» l.initial.level l.earlier l.level l.track.activities l.track.reaches l.falsified l.count

abbrev pub decreases-loop-falsified : goal.decreases-loop-falsified
decreases-loop-falsified l = slack (box_of l.kept.n l.level.lower l.level.upper)
