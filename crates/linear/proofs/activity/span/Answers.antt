-- `linear::activity::span` meets its contract. Assumes nothing.
use native.Mathlib.Omega.{arith}
use mathlib.Core.Path.{◌≡◌, ap, ◌∙◌}
use lib.IntN.{ℤ, pos, nat_abs, ◌-ℤ◌, ◌*ℤ◌}
use mir.Syntax.{w64}
use mir.Val.{SFits, to_z, of_z}
use mir.Facts.{to_z-of_z}
use Rattle.model_problems.specs.Ranges.{max_coefficient}
use Rattle.integer.specs.Size.{Within}
use Rattle.integer.specs.Automatic.{exps, fits!, eq!, within! }
use Rattle.linear.specs.Reach.{span_of}
use Rattle.linear.proofs.activity.span.Goals as goal

-- |a|, as the call gives it
size_is : {a r : ℤ} → SFits w64 a → r ≡ pos (nat_abs (to_z w64 (of_z w64 a))) → r ≡ pos (nat_abs a)
size_is f e = e ∙ ap (λ (z : ℤ). pos (nat_abs z)) (to_z-of_z f)

small : {a r : ℤ} → r ≡ pos (nat_abs a) → Within max_coefficient a → Within max_coefficient r
small e h = rw e (record { within = h.within })

pub overflow_mul-result : goal.overflow_mul-result
overflow_mul-result c =
    let w = small (size_is c.ranges.a c.abs.ensures.value) c.requires.coefficient in
    fits! (search exps depth 10) tt

pub returns : goal.returns
unfolding span_of
returns c =
    let a = c.args in
    let e = size_is c.ranges.a c.abs.ensures.value in
    let w = small e c.requires.coefficient in
    record {
      value = eq! (search exps depth 10) (search exps depth 8) tt (omega arith) ∙ ap (λ (z : ℤ). z *ℤ (a.upper -ℤ a.lower)) e;
      within = within! (search exps depth 10) tt;
    }
