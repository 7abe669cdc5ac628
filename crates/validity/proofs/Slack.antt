-- The slack of a box, Σ (U − L): one box inside another, and boxes in range.
use Prim.Native.Nat.{◌*◌, ◌≤◌}
use native.Mathlib.Omega.{arith}
use mathlib.Core.List.{[], ◌∷◌}
use lib.Dec.{T}
use lib.IntN.{neg_ℤ, nat_abs, ◌-ℤ◌}
use lib.ListN.{length}
use Rattle.model_problems.specs.Lists.{all, all_of}
use Rattle.model_problems.specs.Ranges.{within, max_variables, max_bound, max_slack}
use Rattle.model_problems.specs.Constraint.{Bounds, Box}
use Rattle.model_problems.specs.Problem.{bounds_in_range}
use Rattle.model_walk.specs.Move.{slack}
use Rattle.integer.specs.Size.{abs-add, abs_neg, between_in}
use Rattle.integer.specs.Tests.{and_left, and_right}
use Rattle.validity.proofs.Boxes.{Ordered, Nested, gap_parts}

pub slack-nested : (box outer : Box) → Ordered box → Nested box outer → slack box ≤ slack outer
unfolding slack
slack-nested [] [] o n = omega arith
slack-nested [] (c ∷ outer) o n = absurd n
slack-nested (b ∷ box) [] o n = absurd n
slack-nested (b ∷ box) (c ∷ outer) o n =
    omega (arith, gap_parts b.lower b.upper o.0, gap_parts c.lower c.upper (omega arith), slack-nested box outer o.1 n.2)

gap-small : (b : Bounds) → T (bounds_in_range b) → nat_abs (b.upper -ℤ b.lower) ≤ 2 * max_bound
unfolding bounds_in_range all within
gap-small b t =
    let l = and_left (within max_bound b.lower) _ t in
    let u = and_left (within max_bound b.upper) _ (and_right (within max_bound b.lower) _ t) in
    omega (arith, abs-add b.upper (neg_ℤ b.lower), abs_neg b.lower, between_in max_bound b.lower l, between_in max_bound b.upper u)

slack-bounded : (box : Box) → T (all_of bounds_in_range box) → slack box ≤ 2 * max_bound * length box
unfolding slack all_of
slack-bounded [] t = omega arith
slack-bounded (b ∷ box) t =
    omega (arith, gap-small b (and_left (bounds_in_range b) (all_of bounds_in_range box) t), slack-bounded box (and_right (bounds_in_range b) (all_of bounds_in_range box) t))

pub slack-most : (box : Box) → T (all_of bounds_in_range box) → length box ≤ max_variables → slack box ≤ max_slack
slack-most box t h = omega (arith, slack-bounded box t)
