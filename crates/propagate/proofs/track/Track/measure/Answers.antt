-- `propagate::track::Track::measure` meets its contract: the constraints passed are tracked. Assumes nothing.
use native.Mathlib.Omega.{arith}
use lib.Dec.{lit<}
use borrow.Author.Rules.{rules}
use Rattle.integer.specs.Tests.{back}
use Rattle.layout.specs.Rows.{row_at}
use Rattle.propagate.proofs.Tracking.{scan-row, scan-box, tracked-more, unknown-reach}
use Rattle.propagate.proofs.track.Track.measure.Goals as goal

pub min_activity-requires-clause-row_fits : goal.min_activity-requires-clause-row_fits
min_activity-requires-clause-row_fits c = scan-row c.requires.fits.0 c.loop-j.j (search rules) (rw c.count-j-end.ensures at c.loop-j-test.true)

pub min_activity-requires-clause-box_fits : goal.min_activity-requires-clause-box_fits
min_activity-requires-clause-box_fits c = scan-box c.requires.fits.0 (search rules) (search rules)

pub loop-j-preserved : goal.loop-j-preserved
unfolding row_at
loop-j-preserved c =
    let f = c.requires.fits.0 in
    let j = c.loop-j.j in
    let h = rw c.count-j-end.ensures at c.loop-j-test.true in
    let s = c.loop-j.invariant in
    rw (back (lit< tt) c.min_activity.ensures.within)
    (tracked-more _ _ _ _ _ _ j _ _ (omega (arith, h, f.count)) s c.min_activity.ensures.value c.min_activity.ensures.within
    (unknown-reach _ _ _ _ _ (scan-row f j s.long h) (scan-box f (search rules) (search rules))))
