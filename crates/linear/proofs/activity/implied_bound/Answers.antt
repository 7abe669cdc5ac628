-- `linear::activity::implied_bound` meets its contract. Assumes nothing.
use mathlib.Core.Path.{◌≡◌, ap, ◌∙◌}
use borrow.Author.Rules.{sfits_of}
use lib.Dec.{lit<}
use lib.IntN.{ℤ, pos, neg_ℤ, nat_abs, ◌-ℤ◌, +ℤ_idl}
use mir.Syntax.{w64}
use mir.Val.{SFits, to_z, of_z}
use mir.Facts.{to_z-of_z}
use Rattle.integer.specs.Size.{fits, neg-within}
use Rattle.integer.specs.Tests.{lt_z-true, lt_z-false}
use Rattle.linear.specs.Ranges.{ImpliedFits}
use Rattle.linear.proofs.Quotients.{upper_is, lower-is}
use Rattle.linear.proofs.activity.implied_bound.Goals as goal

negation-is : {p a : ℤ} → SFits w64 p → ImpliedFits p a → to_z w64 (of_z w64 (pos 0 -ℤ to_z w64 (of_z w64 p))) ≡ neg_ℤ p
negation-is {p} f r =
    let g : SFits w64 (pos 0 -ℤ p) = rw (+ℤ_idl (neg_ℤ p)) (fits (lit< tt) (neg-within r.rest)) in
    simp to_z-of_z (+ℤ_idl (neg_ℤ p))

pub returns-then-a-gt0 : goal.returns-then-a-gt0
returns-then-a-gt0 c =
    let e = c.unsigned_abs-size.ensures.value ∙ ap nat_abs (to_z-of_z c.ranges.a) in
    rw (to_z-of_z {w = w64} (sfits_of c.floor_div.type_inv))
    (upper_is _ _ _ _ c.args.a (lt_z-true (rw (to_z-of_z c.ranges.a) at c.if-a-gt0.true)) (negation-is c.ranges.p c.requires.0) e c.floor_div.ensures.0)

pub returns-else-a-gt0 : goal.returns-else-a-gt0
returns-else-a-gt0 c =
    let e = c.unsigned_abs-size.ensures.value ∙ ap nat_abs (to_z-of_z c.ranges.a) in
    rw (to_z-of_z {w = w64} (sfits_of c.ceil_div.type_inv))
    (lower-is _ _ _ _ c.args.a (lt_z-false (rw (to_z-of_z c.ranges.a) at c.if-a-gt0.false)) c.requires.1 (to_z-of_z c.ranges.p) e c.ceil_div.ensures.0)
