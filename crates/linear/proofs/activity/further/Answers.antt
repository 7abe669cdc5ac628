-- `linear::activity::further` meets its contract. Assumes nothing.
use Prim.Native.Nat.{ℕ}
use mathlib.Core.Bool.{Bool, true, false, cond}
use mathlib.Core.Path.{◌≡◌}
use borrow.Author.Rules.{sfits_of}
use lib.Dec.{lit<}
use lib.IntN.{ℤ}
use lib.Signed.{◌≤ℤ◌, lt_z}
use mir.Syntax.{w64}
use mir.Val.{SFits, to_z, of_z}
use mir.Facts.{to_z-of_z}
use Rattle.std.specs.Int.{int_max}
use Rattle.model_problems.specs.Constraint.{Bounds}
use Rattle.integer.specs.Size.{Within}
use Rattle.integer.specs.Tests.{back}
use Rattle.linear.specs.Reach.{span_of, widest_span, Further}
use Rattle.linear.proofs.activity.further.Goals as goal

-- one of two numbers
either : {n : ℕ} {x y : ℤ} → Within n x → Within n y → (b : Bool) → Within n (cond b x y)
either h k true = h
either h k false = k

-- the larger of `most` and the span s, which the call gets as x and y
larger : {most s a x y r : ℤ} {b : Bounds} → Within widest_span most → Within widest_span s → s ≡ span_of a b → x ≡ most → y ≡ s → r ≡ int_max x y → x ≤ℤ r → y ≤ℤ r → Further most a b r
larger {x} {y} m w e p q v h k = record { before = rw p at h; here = rw (q, e) at k; size = rw v (either (rw p m) (rw q w) (lt_z y x)) }

-- the span, as the model's
found : {a l u r : ℤ} → SFits w64 a → SFits w64 l → SFits w64 u →
    r ≡ span_of (to_z w64 (of_z w64 a)) (record { lower = to_z w64 (of_z w64 l); upper = to_z w64 (of_z w64 u) }) → r ≡ span_of a (record { lower = l; upper = u })
found f g h e = simp (to_z-of_z, f, g, h) at e

pub returns : goal.returns
returns c =
    let s = c.span in
    let r = c.ranges in
    let m = c.max.ensures in
    rw (to_z-of_z {w = w64} (sfits_of c.max.type_inv))
    (larger c.requires.1 s.ensures.within (found r.a r.lower r.upper s.ensures.value) (to_z-of_z r.most) (back (lit< tt) s.ensures.within) m.value m.self_bound m.other_bound)
