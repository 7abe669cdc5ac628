-- `linear::activity::improvement_at` meets its contract: `Implied` has what each branch gives. Assumes nothing.
use Prim.Native.Nat.{ℕ, ◌*◌}
use native.Mathlib.Omega.{arith}
use mathlib.Core.Path.{◌≡◌, sym, ◌∙◌}
use lib.Dec.{lit<}
use lib.IntN.{ℤ, pos, ◌-ℤ◌}
use lib.Signed.{◌<ℤ◌}
use mir.Syntax.{w64}
use mir.Val.{SFits, to_z, of_z}
use mir.Facts.{to_z-of_z}
use Rattle.model_problems.specs.Ranges.{max_coefficient}
use Rattle.model_problems.specs.Constraint.{term}
use Rattle.integer.specs.Size.{Within}
use Rattle.integer.specs.Automatic.{exps, fits!, eq!, within! }
use Rattle.integer.specs.Tests.{back, le_z-true, le_z-false}
use Rattle.linear.specs.Ranges.{ImprovementFits, widest_bound, widest_term}
use Rattle.linear.specs.Reach.{span_of, widest_span}
use Rattle.linear.specs.Improvement.{move_of}
use Rattle.linear.proofs.Implied.{improved, improved-nonzero, unimproved}
use Rattle.linear.proofs.activity.improvement_at.Goals as goal
use Rattle.linear.proofs.activity.improvement_at.Goals.{Else-span-activity}

-- what the code computes, as it is read
module _ {a l u w : ℤ} (r : ImprovementFits a l u w) where
  slack : to_z w64 (of_z w64 (pos 0 -ℤ to_z w64 (of_z w64 w))) ≡ pos 0 -ℤ w
  slack = eq! (search exps depth 8) (search exps depth 8) tt (omega arith)

  rest : {x : ℤ} → Within widest_term x → to_z w64 (of_z w64 (to_z w64 (of_z w64 w) -ℤ to_z w64 (of_z w64 x))) ≡ w -ℤ x
  rest h = eq! (search exps depth 8) (search exps depth 8) tt (omega arith)

-- the span, as the model's
spanned : {a l u r : ℤ} → SFits w64 a → SFits w64 l → SFits w64 u → Within widest_span r →
    r ≡ span_of (to_z w64 (of_z w64 a)) (record { lower = to_z w64 (of_z w64 l); upper = to_z w64 (of_z w64 u) }) → to_z w64 (of_z w64 r) ≡ span_of a (record { lower = l; upper = u })
spanned f g h w e = back (lit< tt) w ∙ simp (to_z-of_z, f, g, h) at e

pub returns-then-span-activity-clause-by_index : goal.returns-then-span-activity-clause-by_index
unfolding move_of
returns-then-span-activity-clause-by_index c j i =
    let a = c.args in
    let r = c.ranges in
    let e = spanned r.a r.lower r.upper c.span.ensures.within c.span.ensures.value in
    unimproved a.activity a.lower a.upper a.a (le_z-true (rw (e, slack c.requires) at c.if-span-activity.true)) j i

-- the slack is below the span
below : (c : Else-span-activity) → (pos 0 -ℤ c.args.activity) <ℤ span_of c.args.a (record { lower = c.args.lower; upper = c.args.upper })
below c =
    let r = c.ranges in
    le_z-false (rw (spanned r.a r.lower r.upper c.span.ensures.within c.span.ensures.value, slack c.requires) at c.if-span-activity.false)

pub overflow_sub-activity-2 : goal.overflow_sub-activity-2
overflow_sub-activity-2 c =
    let t = c.term.ensures.by_index widest_bound (within! (search exps depth 10) tt) (within! (search exps depth 10) tt) in
    fits! (search exps depth 10) tt

pub implied_bound-requires : goal.implied_bound-requires
implied_bound-requires c =
    let t = c.term.ensures.by_index widest_bound (within! (search exps depth 10) tt) (within! (search exps depth 10) tt) in (
      record { rest = within! (search exps depth 10) tt; coefficient = within! (search exps depth 10) tt },
      λ z. improved-nonzero c.args.activity c.args.lower c.args.upper c.args.a c.requires.holds (below (goal.at.implied_bound-requires c).Else-span-activity) (sym (to_z-of_z c.ranges.a) ∙ z),
    )

pub returns : goal.returns
returns c =
    let a = c.args in
    let r = c.ranges in
    let d : c.term.result ≡ term a.a (record { lower = a.lower; upper = a.upper }) = simp (to_z-of_z, r.a, r.lower, r.upper) at c.term.ensures.value in
    let m = improved a.activity a.lower a.upper a.a c.requires.holds (below (goal.at.returns c).Else-span-activity) in
    let t = c.term.ensures.by_index widest_bound (within! (search exps depth 10) tt) (within! (search exps depth 10) tt) in
    let e = rw (rest c.requires t, to_z-of_z r.a, d) at c.implied_bound.ensures in
    rw e (record { by_index = m.0; improves = m.1 })
