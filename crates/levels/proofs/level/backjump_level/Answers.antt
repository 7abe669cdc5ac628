-- `levels::level::backjump_level` meets its contract: every level passed falsifies the constraint, and where one does not, none above it does. Assumes
-- nothing.
use Prim.Native.Nat.{ℕ, suc, ◌+◌, ◌-◌, ◌≤◌, ◌<◌}
use native.Mathlib.Omega.{arith}
use native.Mathlib.Nat.{eq-or-lt_of_le}
use mathlib.Core.Bool.{Bool, true, false}
use mathlib.Core.List.{List}
use mathlib.Core.Logic.{⊎_elim}
use mathlib.Core.Path.{◌≡◌, sym, subst, ◌∙◌}
use mir.Facts.{to_z-of_z}
use lib.ListN.{get_or}
use Rattle.lists.proofs.Bools.{clash}
use Rattle.model_problems.specs.Constraint.{Constraint, falsified}
use Rattle.model_walk.specs.Conflict.{levels_tested}
use Rattle.layout.specs.Rows.{box_of}
use Rattle.state.specs.View.{no_level}
use Rattle.state.specs.declared.Level.{Level}
use Rattle.levels.specs.Level.{box_at, LevelsNested, LeastFalsifying}
use Rattle.levels.proofs.Nesting.{clear-outward}
use Rattle.levels.proofs.level.backjump_level.Invariants.{Passed}
use Rattle.levels.proofs.level.backjump_level.Goals as goal

module _ {k : Constraint} {n depth : ℕ} {levels : List Level} {level tested : ℕ} (p : Passed k n depth levels level tested) where
  -- the search stops at a level that does not falsify it
  found : LevelsNested n depth levels → falsified k (box_at n levels depth) ≡ true → falsified k (box_at n levels level) ≡ false →
      LeastFalsifying k n depth levels (level + 1) × (tested + 1 ≡ levels_tested depth (level + 1))
  unfolding levels_tested
  found l deepest f = (record { reach = inside; falsifies = p.falsifies (level + 1) (omega arith) inside; least = λ t h. clear-outward l k level (omega (arith, p.count)) f t (omega arith) }, number)
    where
      inside : level + 1 ≤ depth
      inside =
          ⊎_elim
          (λ (e : level ≡ depth). clash deepest (subst (λ (t : ℕ). falsified k (box_at n levels t) ≡ false) e f))
          (λ (e : level < depth). omega arith)
          (eq-or-lt_of_le (omega (arith, p.count)))

      number : tested + 1 ≡ levels_tested depth (level + 1)
      number = let e : level + 1 ≡ suc level = omega arith in rw e (omega (arith, p.count, inside))

  -- one more is passed
  module _ (t : falsified k (box_at n levels level) ≡ true) where
    from-here : (s : ℕ) → level ≤ s → s ≤ depth → falsified k (box_at n levels s) ≡ true
    from-here s a b = ⊎_elim (λ (e : level ≡ s). rw (← e) t) (λ (l : level < s). p.falsifies s l b) (eq-or-lt_of_le a)

    passed-more : 0 < level → Passed k n depth levels (level - 1) (tested + 1)
    passed-more h = record { count = omega (arith, p.count); falsifies = λ s a b. from-here s (omega arith) b }

    passed-all : level ≡ 0 → LeastFalsifying k n depth levels 0 × (tested + 1 ≡ levels_tested depth 0)
    unfolding levels_tested
    passed-all z = (record { reach = omega arith; falsifies = from-here 0 (omega arith) (omega arith); least = λ s h. absurd (omega arith) }, omega (arith, p.count))

-- what the test of the level told
tested-at : (k : Constraint) (n t : ℕ) (levels : List Level) {b : Bool} → b ≡ falsified k (box_of n (get_or levels t no_level).lower (get_or levels t no_level).upper) → b ≡ falsified k (box_at n levels t)
unfolding box_at
tested-at k n t levels e = e

pub loop-level-init : goal.loop-level-init
loop-level-init c = record { count = omega arith; falsifies = λ t a b. absurd (omega arith) }

pub overflow_add-tested : goal.overflow_add-tested
overflow_add-tested c = record { fits = omega (arith, c.loop-level.invariant.count) }

pub falsifies-requires-clause-range : goal.falsifies-requires-clause-range
unfolding box_at
falsifies-requires-clause-range c = c.requires.1.1.1.0.range c.loop-level.level (omega (arith, c.loop-level.invariant.count))

pub returns-then-not-falsifies : goal.returns-then-not-falsifies
returns-then-not-falsifies c =
    let p = c.requires in
    let e = to_z-of_z c.ranges.q in
    rw (← e) (found c.loop-level.invariant p.1.1.1.0 (rw e p.1.1.1.1) (sym (tested-at _ _ c.loop-level.level c.args.levels.now c.falsifies.ensures) ∙ c.if-not-falsifies.true))

pub loop-level-preserved : goal.loop-level-preserved
loop-level-preserved c =
    passed-more c.loop-level.invariant (sym (tested-at _ _ c.loop-level.level c.args.levels.now c.falsifies.ensures) ∙ c.if-not-falsifies.false) (omega arith)

pub returns-else-not-falsifies : goal.returns-else-not-falsifies
returns-else-not-falsifies c =
    rw (← to_z-of_z c.ranges.q)
    (passed-all c.loop-level.invariant (sym (tested-at _ _ c.loop-level.level c.args.levels.now c.falsifies.ensures) ∙ c.if-not-falsifies.false) (omega arith))
