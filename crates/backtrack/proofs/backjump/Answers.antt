-- `backtrack::backjump` meets its contract. Assumes nothing.
use native.Mathlib.Omega.{arith}
use mathlib.Core.Path.{◌≡◌, ap, ◌∙◌}
use lib.Dec.{lit≤}
use lib.IntN.{ℤ}
use lib.ListN.{length-set}
use mir.Facts.{to_z-of_z}
use mir.Syntax.{w64}
use mir.Val.{SFits, to_z, of_z}
use Rattle.integer.specs.Size.{weaken}
use Rattle.lists.proofs.Bools.{true_of}
use Rattle.linear.proofs.Ranges.{lower-within}
use Rattle.state.specs.declared.Level.{Level}
use Rattle.propagate.proofs.Tracking.{shiftable, told-set, raised-closes}
use Rattle.backtrack.proofs.Moving.{flipped_above, flipped-rise}
use borrow.Author.Rules.{rules}
use Rattle.backtrack.proofs.backjump.Goals as goal

-- by how much the lower bound rises, as it is read
rise : {r e : ℤ} → SFits w64 r → r ≡ e → to_z w64 (of_z w64 r) ≡ e
rise f h = to_z-of_z f ∙ h

pub flip-rise-requires : goal.flip-rise-requires
flip-rise-requires c =
    let a = c.args in
    let p = c.requires.0 in
    (omega (arith, p.fits.few, p.variable), (weaken (lit≤ tt) (lower-within _ a.level.now.lower a.level.now.upper (true_of _ p.fits.bounds) a.i p.variable), flipped-rise _ _ _ _ _ _ _ p.fits p.next p.variable p.lowers))

pub shift-requires : goal.shift-requires
shift-requires c =
    let p = c.requires.0 in
    rw (rise (search rules) c.flip-rise.ensures.0)
    (record {
      shiftable = shiftable _ _ _ _ _ _ _ _ _ _ p.fits c.measure.ensures p.variable (flipped-rise _ _ _ _ _ _ _ p.fits p.next p.variable p.lowers) (record { within = omega arith });
    })

pub returns-clause-flipped : goal.returns-clause-flipped
returns-clause-flipped c =
    let a = c.args in
    let p = c.requires.0 in
    let set = c.flip-rise.ensures.1 in
    let t = rw (rise (search rules) c.flip-rise.ensures.0) at c.shift.ensures.shifted in
    record {
      bound = ap (λ (l : Level). l.lower) set;
      why = ap (λ (l : Level). l.below) set;
      told = rw (ap (λ (l : Level). l.lower) set, c.shift.ensures.reaches) (told-set _ _ _ _ _ _ _ _ _ _ _ _ _ _ c.measure.ensures p.next (length-set a.level.now.lower _ _ ∙ p.lowers) p.uppers
          (raised-closes _ _ _ _ a.i _ p.variable (omega (arith, p.fits.few, p.lowers)) (flipped_above a.thresholds.now a.level.now.lower a.i)) t);
    }
