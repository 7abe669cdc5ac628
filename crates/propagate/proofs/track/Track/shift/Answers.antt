-- `propagate::track::Track::shift` meets its contract: the activities passed are changed and not above 0, and the others are as they were. Assumes nothing.
use Prim.Native.Nat.{ℕ, ◌<◌, ◌*◌}
use native.Mathlib.Omega.{arith}
use mathlib.Core.List.{List}
use mathlib.Core.Path.{◌≡◌, ap}
use lib.Dec.{lit<}
use lib.IntN.{ℤ, ◌+ℤ◌}
use mir.Syntax.{w64}
use mir.Val.{SFits, to_z, of_z}
use Rattle.model_problems.specs.Ranges.{max_coefficient}
use Rattle.integer.specs.Size.{Within}
use Rattle.integer.specs.Tests.{back, lt_z-true, lt_z-false}
use Rattle.integer.specs.Automatic.{exps, fits!, eq! }
use Rattle.linear.specs.Ranges.{widest_activity, widest_change, ChangeFits}
use Rattle.linear.specs.Reach.{widest_span}
use Rattle.layout.specs.Rows.{row_length, number_in, cell, max_rows}
use Rattle.propagate.specs.Tracked.{Shiftable}
use Rattle.propagate.proofs.Tracking.{Shifting, shifting-more, shifting-hit}
use Rattle.propagate.proofs.track.Track.shift.Goals as goal

module _ {kept i : ℕ} {rise fall : ℤ} {rows old : List ℤ} (p : Shiftable kept i rise fall rows old) where
  -- a coefficient and the change, as they are read
  coefficient : (j : ℕ) → j < kept → to_z w64 (of_z w64 (cell rows (row_length * j) i)) ≡ cell rows (row_length * j) i
  coefficient j h = back (lit< tt) (p.coefficients j h)

  rises : to_z w64 (of_z w64 rise) ≡ rise
  rises = back (lit< tt) p.up

  falls : to_z w64 (of_z w64 fall) ≡ fall
  falls = back (lit< tt) p.down

  change : (j : ℕ) → j < kept → ChangeFits (cell rows (row_length * j) i) rise fall
  change j h = record { coefficient = p.coefficients j h; up = p.up; down = p.down }

  -- the activity at j, and the term t of the change
  module _ {new : List ℤ} (j : ℕ) {t : ℤ} (s : Shifting i rise fall rows old new j) (h : j < kept)
      (sized : (w : ℕ) → Within w (to_z w64 (of_z w64 rise)) → Within w (to_z w64 (of_z w64 fall)) → Within (max_coefficient * w) t) where
    room : j < max_rows
    room = omega (arith, p.count)

    old-size : Within widest_activity (number_in new j)
    old-size = rw (s.rest j (omega arith)) (p.sizes j h)

    term-size : Within widest_span t
    term-size = sized widest_change (rw rises p.up) (rw falls p.down)

    sum-fits : SFits w64 (to_z w64 (of_z w64 (number_in new j)) +ℤ to_z w64 (of_z w64 t))
    sum-fits = let a = old-size in let b = term-size in fits! (search exps depth 8) tt

    stored : to_z w64 (of_z w64 (to_z w64 (of_z w64 (number_in new j)) +ℤ to_z w64 (of_z w64 t))) ≡ number_in new j +ℤ t
    stored = let a = old-size in let b = term-size in eq! (search exps depth 8) (search exps depth 8) tt (omega arith)

pub term-requires : goal.term-requires
unfolding cell number_in
term-requires c =
    let p = c.requires.shiftable in
    let h = rw c.count-count.ensures at c.loop-j-test.true in
    rw (coefficient p c.loop-j.j h, rises p, falls p) (change p c.loop-j.j h)

pub overflow_add-activity : goal.overflow_add-activity
unfolding number_in
overflow_add-activity c = sum-fits c.requires.shiftable c.loop-j.j (rw (rises c.requires.shiftable, falls c.requires.shiftable) at c.loop-j.invariant.shifting) (rw c.count-count.ensures at c.loop-j-test.true) c.term.ensures.by_index

pub returns-then-activity-gt0-clause-shifted : goal.returns-then-activity-gt0-clause-shifted
unfolding cell number_in
returns-then-activity-gt0-clause-shifted c =
    let p = c.requires.shiftable in
    let s = rw (rises p, falls p) at c.loop-j.invariant.shifting in
    let h = rw c.count-count.ensures at c.loop-j-test.true in
    let e = rw (coefficient p c.loop-j.j h, rises p, falls p) at c.term.ensures.value in
    let d = stored p c.loop-j.j s h c.term.ensures.by_index in
    rw d (shifting-hit _ _ _ _ _ _ _ _ s (room p c.loop-j.j s h c.term.ensures.by_index) (ap (λ (z : ℤ). number_in c.loop-j.self.activities c.loop-j.j +ℤ z) e) _ h (lt_z-true (rw d at c.if-activity-gt0.true)))

pub loop-j-preserved : goal.loop-j-preserved
unfolding cell number_in
loop-j-preserved c =
    let p = c.requires.shiftable in
    let s = rw (rises p, falls p) at c.loop-j.invariant.shifting in
    let h = rw c.count-count.ensures at c.loop-j-test.true in
    let e = rw (coefficient p c.loop-j.j h, rises p, falls p) at c.term.ensures.value in
    let d = stored p c.loop-j.j s h c.term.ensures.by_index in
    record {
      shifting = rw (rises p, falls p, d) (shifting-more _ _ _ _ _ _ _ _ s (room p c.loop-j.j s h c.term.ensures.by_index) (ap (λ (z : ℤ). number_in c.loop-j.self.activities c.loop-j.j +ℤ z) e) (lt_z-false (rw d at c.if-activity-gt0.false)));
      reaches = c.loop-j.invariant.reaches;
    }
