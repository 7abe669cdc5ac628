-- `backtrack::flip` meets its contract. Assumes nothing.
use mathlib.Core.List.{List}
use mathlib.Core.Path.{◌≡◌, refl, ◌∙◌}
use Prim.Native.Nat.{ℕ}
use lib.Dec.{lit<, lit≤}
use lib.IntN.{ℤ, pos}
use lib.ListN.{get_or}
use mir.Facts.{to_z-of_z}
use mir.Syntax.{w64}
use mir.Val.{SFits, to_z, of_z}
use Rattle.integer.specs.Size.{Within, weaken}
use Rattle.integer.specs.Tests.{back}
use Rattle.linear.specs.Ranges.{widest_bound}
use Rattle.model_problems.specs.Threshold.{next_value}
use Rattle.layout.specs.Rows.{number_in}
use Rattle.backtrack.specs.Jumps.{next_in}
use borrow.Author.Rules.{rules}
use Rattle.backtrack.proofs.flip.Goals as goal

-- the lower bound, and the value after it, as they are read
module _ (lower : List ℤ) (i : ℕ) (w : Within widest_bound (number_in lower i)) where
  value : to_z w64 (of_z w64 (number_in lower i)) ≡ number_in lower i
  value = back (lit< tt) w

  next : (thresholds : List ℤ) {v : ℤ} → SFits w64 v → SFits w64 (get_or thresholds i (pos 0)) →
      v ≡ next_value (to_z w64 (of_z w64 (get_or thresholds i (pos 0)))) (to_z w64 (of_z w64 (get_or lower i (pos 0)))) →
      to_z w64 (of_z w64 v) ≡ next_in thresholds lower i
  unfolding number_in
  next thresholds f u e =
      let l = value in
      let t = to_z-of_z u in
      to_z-of_z f ∙ cc

pub next_value-next-requires : goal.next_value-next-requires
unfolding number_in
next_value-next-requires c = rw (value c.args.level.now.lower c.args.i c.requires.1.0) (weaken (lit≤ tt) c.requires.1.0)

pub set-requires : goal.set-requires
set-requires c =
    let p = c.requires in
    rw (next c.args.level.now.lower c.args.i p.1.0 c.args.thresholds.now (search rules) (search rules) c.next_value-next.ensures) (record { variable = p.0; old = p.1.0; change = p.1.1 })

pub returns : goal.returns
returns c =
    let f : SFits w64 c.set.result = search rules in
    rw (to_z-of_z f, ← next c.args.level.now.lower c.args.i c.requires.1.0 c.args.thresholds.now (search rules) (search rules) c.next_value-next.ensures) (c.set.ensures.0, rw (c.set.ensures.1.bound, c.set.ensures.1.why) refl)
