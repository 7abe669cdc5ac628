-- `linear::activity::term` meets its contract. Assumes nothing.
use native.Mathlib.Omega.{arith}
use mathlib.Core.Path.{◌∙◌}
use lib.Dec.{lit<}
use lib.IntN.{ℤ, ◌*ℤ◌}
use mir.Syntax.{w64}
use mir.Val.{SFits}
use mir.Facts.{to_z-of_z}
use Rattle.model_problems.specs.Ranges.{max_coefficient}
use Rattle.integer.specs.Size.{Within, fits, mul-within}
use Rattle.integer.specs.Automatic.{exps, fits!, eq! }
use Rattle.linear.specs.Ranges.{widest_change}
use Rattle.linear.proofs.Terms.{term-lower, term-upper}
use Rattle.linear.proofs.activity.term.Goals as goal

product : {a b : ℤ} → Within max_coefficient a → Within widest_change b → SFits w64 (a *ℤ b)
product h k = fits (lit< tt) (mul-within h k)

pub overflow_mul-result : goal.overflow_mul-result
overflow_mul-result c = fits! (search exps depth 8) tt

pub returns-then-a-ge0 : goal.returns-then-a-ge0
returns-then-a-ge0 c =
    let s = c in record {
      value = eq! (search exps depth 8) (search exps depth 8) tt (omega arith) ∙
          term-lower s.args.a (record { lower = s.args.lower; upper = s.args.upper }) (simp (to_z-of_z, s.ranges.a) at c.if-a-ge0.true);
      by_index = λ w l u. rw (to_z-of_z s.ranges.a, to_z-of_z s.ranges.lower, to_z-of_z (product s.requires.coefficient s.requires.up)) (mul-within s.requires.coefficient l);
    }

pub overflow_mul-result-else-a-ge0 : goal.overflow_mul-result-else-a-ge0
overflow_mul-result-else-a-ge0 c = fits! (search exps depth 8) tt

pub returns-else-a-ge0 : goal.returns-else-a-ge0
returns-else-a-ge0 c =
    let s = c in record {
      value = eq! (search exps depth 8) (search exps depth 8) tt (omega arith) ∙
          term-upper s.args.a (record { lower = s.args.lower; upper = s.args.upper }) (simp (to_z-of_z, s.ranges.a) at c.if-a-ge0.false);
      by_index = λ w l u. rw (to_z-of_z s.ranges.a, to_z-of_z s.ranges.upper, to_z-of_z (product s.requires.coefficient s.requires.down)) (mul-within s.requires.coefficient u);
    }
