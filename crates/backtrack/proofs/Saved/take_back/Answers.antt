-- `backtrack::Saved::take_back` meets its contract: the constraints passed are tracked. Assumes nothing.
use Prim.Native.Nat.{ℕ, ◌≤◌, ◌<◌, ◌-◌, ◌+◌, ◌*◌}
use native.Mathlib.Omega.{arith}
use mathlib.Core.Path.{◌≡◌}
use lib.Dec.{lit<}
use lib.IntN.{pos}
use lib.ListN.{get_or}
use Rattle.integer.specs.Tests.{back}
use Rattle.model_problems.specs.Ranges.{max_constraints}
use Rattle.layout.specs.Rows.{number_in}
use Rattle.state.specs.View.{kept_cuts, dropped_cuts}
use Rattle.propagate.specs.Tracked.{Known}
use Rattle.propagate.proofs.Tracking.{tracked-more}
use Rattle.state.specs.Moved.{place_of}
use Rattle.backtrack.proofs.Saved.take_back.Goals as goal

-- the arrays have a place for each constraint that is kept
few : (m made : ℕ) {j kept : ℕ} → j < kept → kept ≡ m + kept_cuts made → m ≤ max_constraints → j < 128
unfolding kept_cuts
few m made h k l = omega (arith, h, k, l)

pub place-p-requires : goal.place-p-requires
place-p-requires c = (omega (arith, few _ c.args.kept.now.made c.loop-j-test.true c.count-all.ensures c.requires.sizes.0), omega (arith, c.dropped.ensures, c.requires.sizes.1.0))

pub offset_bounds-track-j : goal.offset_bounds-track-j
offset_bounds-track-j c = record { fits = omega (arith, few _ c.args.kept.now.made c.loop-j-test.true c.count-all.ensures c.requires.sizes.0) }

pub bounds-track-j : goal.bounds-track-j
bounds-track-j c = few _ c.args.kept.now.made c.loop-j-test.true c.count-all.ensures c.requires.sizes.0

pub offset_bounds-track-j-in-loop-j : goal.offset_bounds-track-j-in-loop-j
offset_bounds-track-j-in-loop-j c = record { fits = omega (arith, few _ c.args.kept.now.made c.loop-j-test.true c.count-all.ensures c.requires.sizes.0) }

pub bounds-track-j-in-loop-j : goal.bounds-track-j-in-loop-j
bounds-track-j-in-loop-j c = few _ c.args.kept.now.made c.loop-j-test.true c.count-all.ensures c.requires.sizes.0

pub loop-j-preserved : goal.loop-j-preserved
unfolding number_in
loop-j-preserved c =
    let a = c.args in
    let j = c.loop-j.j in
    let p = 128 * a.depth + c.place-p.result in
    let q : j < a.kept.now.m + kept_cuts a.kept.now.made = omega (arith, c.loop-j-test.true, c.count-all.ensures) in
    let e : c.place-p.result ≡ place_of a.kept.now.m (dropped_cuts a.kept.now.made - get_or a.self.now.gones a.depth 0) j = rw c.dropped.ensures at c.place-p.ensures in
    -- what was saved of constraint j
    let k : Known a.kept.now.n a.kept.now.rows.now a.level.now.lower a.level.now.upper j (get_or a.self.now.olds p (pos 0)) (get_or a.self.now.limits p (pos 0)) = rw e (c.requires.saved.at j q (omega (arith, e, c.if-count-p.false))) in
    rw (back (lit< tt) k.size, back (lit< tt) k.reach.size)
    (tracked-more _ _ _ _ _ _ j _ _ (omega (arith, few _ c.args.kept.now.made c.loop-j-test.true c.count-all.ensures c.requires.sizes.0)) c.loop-j.invariant k.same k.size k.reach)
