-- `propagate::track::Track::first_improvement` meets its contract: what is left to scan gives the whole scan's answer, nothing was found yet, and of the
-- constraint at hand the variables that are not left have been passed. Assumes nothing.
use Prim.Native.Nat.{◌<◌, ◌*◌}
use native.Mathlib.Omega.{arith}
use mathlib.Core.Option.{none}
use mathlib.Core.Path.{◌≡◌, refl, ap, sym, ◌∙◌}
use lib.Dec.{lit<}
use lib.IntN.{ℤ, pos, ◌-ℤ◌}
use lib.Signed.{◌≤ℤ◌}
use mir.Syntax.{w64}
use mir.Val.{to_z, of_z}
use Rattle.integer.specs.Automatic.{exps, fits!, eq! }
use Rattle.integer.specs.Order.{≤_trans}
use Rattle.integer.specs.Size.{Within}
use Rattle.integer.specs.Tests.{back, le_z-true, lt_z-false}
use Rattle.linear.specs.Ranges.{widest_activity, TermFits}
use Rattle.linear.specs.Reach.{span_of}
use Rattle.linear.specs.Improvement.{move_of}
use Rattle.layout.specs.Rows.{row_length, number_in, cell, bounds_at}
use Rattle.state.specs.View.{kept_cuts}
use Rattle.propagate.specs.Moves.{found_of}
use Rattle.propagate.proofs.Scans.{improved_at, improved-start, improved-done, improved-skip}
use Rattle.propagate.proofs.Tracking.{scan-term, tracked-reach, span-quiet, known-none}
use Rattle.propagate.proofs.Passed.{Passed, passed_start, passed-more, passed-hit, passed-reach, passed-quiet}
use Rattle.propagate.proofs.track.Track.first_improvement.Goals as goal
use Rattle.propagate.proofs.track.Track.first_improvement.Goals.{After-first-i, After-further-far, After-improvement_at}

-- a constraint's slack, as the machine has it
slack-back : {a : ℤ} → Within widest_activity a → to_z w64 (of_z w64 (pos 0 -ℤ to_z w64 (of_z w64 a))) ≡ pos 0 -ℤ a
slack-back w = eq! (search exps depth 8) (search exps depth 8) tt (omega arith)

pub scan-init : goal.scan-init
scan-init c = record { none = refl; whole = improved-start _ _ _ _ _; tracked = c.requires.scan_fits.1.0; activities = refl }

pub overflow_sub-slack : goal.overflow_sub-slack
unfolding number_in
overflow_sub-slack c = let w = (c.scan.invariant.tracked.at c.scan.j (rw c.count-j-end.ensures at c.scan-test.true)).size in fits! (search exps depth 8) tt

pub scan-preserved-then-self-j : goal.scan-preserved-then-self-j
unfolding number_in
scan-preserved-then-self-j c =
    let v = c.scan.invariant in
    let h = rw c.count-j-end.ensures at c.scan-test.true in
    let t = v.tracked.at c.scan.j h in
    let quiet = le_z-true (rw (slack-back t.size, back (lit< tt) t.reach.size) at c.if-self-j.true) in
    record { none = v.none; whole = improved-skip _ _ _ _ _ _ _ v.whole h (known-none _ _ _ _ _ _ _ t quiet); tracked = v.tracked; activities = v.activities }

pub of-requires : goal.of-requires
unfolding kept_cuts
of-requires c = (c.requires.m_le_max_constraints, omega (arith, c.count-j-end.ensures, c.scan-test.true))

pub loop-left-init : goal.loop-left-init
loop-left-init c =
    let p = c.requires in
    let h = rw c.count-j-end.ensures at c.scan-test.true in
    let mask = c.of in
    record {
      none = c.scan.invariant.none;
      passed = passed_start _ _ _ _ _ _ mask.result _ _ (mask.ensures _ _ _ p.masked.0 h) p.masked.1 (c.scan.invariant.tracked.at c.scan.j h).same (rw c.scan.invariant.activities (p.scan_fits.1.1 c.scan.j h)) c.both-left.ensures.0 c.both-left.ensures.1;
    }

-- the first variable that is left, and what its numbers ask
inside : (c : After-first-i) → c.first-i.result < c.args.kept.now.n
inside c = c.first-i.ensures.inside _ c.loop-left.invariant.passed.few

numbers : (c : After-first-i) → TermFits (cell c.args.kept.now.rows.now (row_length * c.scan.j) c.first-i.result) (number_in c.args.level.now.lower c.first-i.result) (number_in c.args.level.now.upper c.first-i.result)
numbers c = scan-term c.requires.scan_fits.0 c.scan.j c.first-i.result c.scan.invariant.tracked.long (rw c.count-j-end.ensures at c.scan-test.true) (inside c)

pub further-far-requires : goal.further-far-requires
unfolding number_in cell
further-far-requires c =
    let v = numbers (goal.at.further-far-requires c).After-first-i in
    rw (back (lit< tt) v.coefficient, back (lit< tt) v.low, back (lit< tt) v.high) (v, c.loop-left.invariant.passed.size)

-- the variable's span is no more than the constraint reaches now
spanned : (c : After-further-far) → span_of (cell c.args.kept.now.rows.now (row_length * c.scan.j) c.first-i.result) (bounds_at c.args.level.now.lower c.args.level.now.upper c.first-i.result) ≤ℤ c.further-far.result
unfolding number_in cell bounds_at
spanned c =
    let v = numbers (goal.at.After-further-far c).After-first-i in
    rw (back (lit< tt) v.coefficient, back (lit< tt) v.low, back (lit< tt) v.high) at c.further-far.ensures.here

-- the variable is passed where none of its bounds is improved
passed : (c : After-further-far) → improved_at c.args.kept.now.n c.args.kept.now.rows.now c.args.level.now.lower c.args.level.now.upper c.scan.j c.first-i.result ≡ none →
    Passed c.args.kept.now.n c.args.kept.now.rows.now c.args.level.now.lower c.args.level.now.upper c.scan.j (to_z w64 (of_z w64 c.further-far.result)) c.rest-left.result
passed c q =
    let f = c.further-far.ensures in
    rw (back (lit< tt) f.size) (passed-more _ _ _ _ _ _ _ c.loop-left.invariant.passed _ c.first-i.ensures _ _ c.rest-left.ensures f.before (spanned c) f.size q)

pub improvement_at-requires : goal.improvement_at-requires
unfolding number_in cell
improvement_at-requires c =
    let t = c.scan.invariant.tracked.at c.scan.j (rw c.count-j-end.ensures at c.scan-test.true) in
    let v = numbers (goal.at.improvement_at-requires c).After-first-i in
    rw (back (lit< tt) v.coefficient, back (lit< tt) v.low, back (lit< tt) v.high, back (lit< tt) t.size)
    (record { term = v; sum = t.size; holds = rw c.scan.invariant.activities (c.requires.scan_fits.1.1 c.scan.j (rw c.count-j-end.ensures at c.scan-test.true)) })

-- what was found at variable i of constraint j is the model's
tested : (c : After-improvement_at) → move_of c.scan.j c.first-i.result c.improvement_at.result ≡ improved_at c.args.kept.now.n c.args.kept.now.rows.now c.args.level.now.lower c.args.level.now.upper c.scan.j c.first-i.result
unfolding number_in cell bounds_at improved_at
tested c =
    let t = c.scan.invariant.tracked.at c.scan.j (rw c.count-j-end.ensures at c.scan-test.true) in
    let v = numbers (goal.at.After-improvement_at c).After-first-i in
    rw (back (lit< tt) v.coefficient, back (lit< tt) v.low, back (lit< tt) v.high, back (lit< tt) t.size, t.same) at (c.improvement_at.ensures.by_index c.scan.j c.first-i.result)

pub loop-left-preserved-in_default : goal.loop-left-preserved-in_default
unfolding move_of
loop-left-preserved-in_default c =
    let at = goal.at.loop-left-preserved-in_default c in
    record { none = c.loop-left.invariant.none; passed = passed at.After-further-far (sym (tested at.After-improvement_at) ∙ ap (move_of c.scan.j c.first-i.result) c.in_default.is) }

pub loop-left-preserved : goal.loop-left-preserved
unfolding number_in
loop-left-preserved c =
    let far = (goal.at.loop-left-preserved c).After-further-far in
    let t = c.scan.invariant.tracked.at c.scan.j (rw c.count-j-end.ensures at c.scan-test.true) in
    let quiet = lt_z-false (rw (slack-back t.size, back (lit< tt) c.further-far.ensures.size) at c.if-slack-far.false) in
    record { none = c.loop-left.invariant.none; passed = passed far (span-quiet _ _ _ _ _ _ _ t.same (≤_trans (spanned far) quiet)) }

pub scan-preserved : goal.scan-preserved
scan-preserved c =
    let v = c.scan.invariant in
    let h = rw c.count-j-end.ensures at c.scan-test.true in
    let p = c.loop-left.invariant.passed in
    record {
      none = c.loop-left.invariant.none;
      whole = improved-skip _ _ _ _ _ _ _ v.whole h (passed-quiet _ _ _ _ _ _ _ p c.loop-left-test.false);
      tracked = tracked-reach _ _ _ _ _ _ _ c.scan.j _ h c.requires.scan_fits.0.count v.tracked (passed-reach _ _ _ _ _ _ _ p c.loop-left-test.false);
      activities = v.activities;
    }

pub returns-after-scan-clause-result_value : goal.returns-after-scan-clause-result_value
unfolding found_of
returns-after-scan-clause-result_value c = ap found_of c.scan.invariant.none ∙ sym (improved-done _ _ _ _ _ _ _ c.scan.invariant.whole (rw c.count-j-end.ensures at c.scan-test.false))

-- an improvement at the first variable that is left is the whole scan's answer
pub returns-in-Some-clause-result_value : goal.returns-in-Some-clause-result_value
unfolding found_of move_of
returns-in-Some-clause-result_value c =
    let e = tested (goal.at.returns-in-Some-clause-result_value c).After-improvement_at in
    sym (passed-hit _ _ _ _ _ _ _ c.loop-left.invariant.passed _ c.first-i.ensures _ _ _ c.scan.invariant.whole (rw c.count-j-end.ensures at c.scan-test.true) (sym e ∙ ap (move_of _ _) c.in-Some.is))
