-- `engine::walk::Walk::scan` meets its contract. Assumes nothing.
use native.Mathlib.Omega.{arith}
use mathlib.Core.Path.{refl}
use Rattle.state.specs.View.{kept_cuts}
use Rattle.bits.specs.Divided.{Everyone}
use Rattle.propagate.proofs.Tracking.{scan-box, told-start}
use Rattle.propagate.proofs.Warning.{testable, warned}
use Rattle.turns.proofs.Masking.{masked-starts}
use Rattle.engine.proofs.walk.Walk.scan.Goals as goal

pub first_divided-self-requires : goal.first_divided-self-requires
first_divided-self-requires c =
    let s = c.requires in
    testable _ _ _ _ _ _ _ _ s.apart s.fits.few s.inputs (scan-box s.fits s.whole.lower s.whole.upper) s.sorted.every.few

pub marks-self-requires : goal.marks-self-requires
marks-self-requires c =
    let s = c.requires in
    rw c.kept-kept.ensures.0 (record { few = s.fits.few; most = s.inputs; inside = omega (arith, s.inputs); long = s.rows_long })

pub marks-self-requires-2 : goal.marks-self-requires-2
unfolding kept_cuts
marks-self-requires-2 c =
    let s = c.requires in
    let k = c.kept-kept.ensures in
    let n = rw (k.1.1.0, k.1.1.1) at c.count-count.ensures in
    rw k.0 (record { few = s.fits.few; most = omega (arith, n); inside = omega (arith, n, s.inputs); long = s.rows_long })

pub returns : goal.returns
returns c =
    let s = c.requires in
    let k = c.kept-kept.ensures in
    let n = rw (k.1.1.0, k.1.1.1) at c.count-count.ensures in
    record {
      is = refl;
      falsified = warned _ _ _ _ _ _ _ _ _ _ s.apart _ _ _ Everyone (told-start _ _ _ _ _ _ _ _ (rw (k.0, k.1.0, k.1.1.0, k.1.1.1) at c.measure.ensures) (rw n at c.first_falsified-first.ensures)) c.first_divided-self.ensures s.sorted.every (λ j h z. absurd z);
      masks = rw n at (masked-starts _ _ _ _ _ _ (omega (arith, n)) (rw k.0 at c.marks-self.ensures) (rw k.0 at c.marks-self-2.ensures));
    }
