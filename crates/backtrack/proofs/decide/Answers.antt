-- `backtrack::decide` meets its contract. Assumes nothing.
use Prim.Native.Nat.{ℕ, ◌<◌}
use native.Mathlib.Omega.{arith}
use mathlib.Core.List.{List}
use mathlib.Core.Path.{◌≡◌, refl, ◌∙◌}
use lib.Dec.{lit<}
use lib.IntN.{ℤ, ◌-ℤ◌}
use lib.ListN.{length-set}
use mir.Syntax.{w64}
use mir.Val.{to_z, of_z}
use mir.Facts.{to_z-of_z}
use borrow.Author.Rules.{sfits_of}
use Rattle.integer.specs.Tests.{back}
use Rattle.lists.proofs.Bools.{true_of}
use Rattle.linear.proofs.Ranges.{lower-within}
use Rattle.layout.specs.Rows.{number_in}
use Rattle.propagate.specs.Tracked.{ScanFits}
use Rattle.propagate.proofs.Tracking.{shiftable, told-set, lowered-closes}
use Rattle.backtrack.proofs.Moving.{decided-below, decided-fits, decided-settable}
use Rattle.backtrack.proofs.decide.Goals as goal
use Rattle.backtrack.proofs.decide.Goals.{After-set-fall}

-- the lower bound as it is read
value : {n kept : ℕ} {rows lower upper : List ℤ} (i : ℕ) → ScanFits n kept rows lower upper → i < n → to_z w64 (of_z w64 (number_in lower i)) ≡ number_in lower i
value i f h = back (lit< tt) (lower-within _ _ _ (true_of _ f.bounds) i h)

pub save-requires : goal.save-requires
save-requires c =
    let p = c.requires in
    record { inputs = p.inputs; deep = p.deep; activities_long = p.tracked.room; reaches_long = p.tracked.reach_room; room = p.room }

pub set-fall-requires : goal.set-fall-requires
unfolding number_in
set-fall-requires c =
    let p = c.requires in
    rw (value c.args.i p.fits p.variable) (decided-settable _ _ _ _ _ _ _ p.fits p.variable p.uppers)

-- by how much the upper bound falls
falls : (c : After-set-fall) → to_z w64 (of_z w64 c.set-fall.result) ≡ number_in c.args.level.now.lower c.args.i -ℤ number_in c.args.level.now.upper c.args.i
unfolding number_in
falls c = to_z-of_z {w = w64} (sfits_of c.set-fall.type_inv) ∙ rw (value c.args.i c.requires.fits c.requires.variable) at c.set-fall.ensures.0

pub shift-requires : goal.shift-requires
shift-requires c =
    let p = c.requires in
    rw (falls (goal.at.shift-requires c).After-set-fall)
    (record {
      shiftable = shiftable _ _ _ _ _ _ _ _ _ _ p.fits p.tracked p.variable (record { within = omega arith }) (decided-settable _ _ _ _ _ c.args.level.now.above _ p.fits p.variable p.uppers).change;
    })

pub returns-clause-decided : goal.returns-clause-decided
unfolding number_in
returns-clause-decided c =
    let a = c.args in
    let p = c.requires in
    let set = rw (value a.i p.fits p.variable) at c.set-fall.ensures.1 in
    let t = rw (falls (goal.at.returns-clause-decided c).After-set-fall) at c.shift.ensures.shifted in
    record {
      bound = set.bound;
      why = set.why;
      told = rw (set.bound, c.shift.ensures.reaches) (told-set _ _ _ _ _ _ _ _ _ _ _ _ _ _ p.tracked (decided-fits _ _ _ _ _ a.level.now.above _ p.fits p.variable p.uppers) p.lowers (length-set a.level.now.upper _ _ ∙ p.uppers)
          (lowered-closes _ _ _ _ a.i _ p.variable (omega (arith, p.fits.few, p.uppers)) (decided-below _ _ _ _ _ a.level.now.above _ p.fits p.variable)) t);
    }

pub returns-clause-level : goal.returns-clause-level
unfolding number_in
returns-clause-level c =
    let p = c.requires in
    let set = rw (value c.args.i p.fits p.variable) at c.set-fall.ensures.1 in
    rw (set.bound, set.why) refl

pub returns-clause-level_saved : goal.returns-clause-level_saved
returns-clause-level_saved c = c.save.ensures _ _ _ _ c.requires.tracked
