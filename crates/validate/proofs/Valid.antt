-- The whole test, in the parts that the code asks one after the other.
use Prim.Native.Nat.{◌+◌}
use native.Mathlib.Omega.{arith}
use mathlib.Core.Bool.{Bool, true, false, ◌&&◌, and-false}
use mathlib.Core.List.{List, [], ◌∷◌}
use mathlib.Core.Path.{◌≡◌, refl, sym, ◌∙◌}
use lib.Dec.{leb}
use Rattle.model_problems.specs.Lists.{tab, all, all_of}
use Rattle.model_problems.specs.Ranges.{max_propagations}
use Rattle.model_problems.specs.Constraint.{in_range, divisor_in_range}
use Rattle.model_problems.specs.Threshold.{is_threshold}
use Rattle.model_walk.specs.Search as model
use Rattle.model_walk.specs.Validity.{scalars_valid, constraints_valid, divisors_valid, numbers_valid, level_valid, levels_valid, level_allowed, nested_valid, status_valid, thresholds_valid, valid, within_limit, admitted}
use Rattle.lists.proofs.Tab.{length-tab}
use Rattle.layout.specs.Rows.{row_at, input_at, thresholds_of}
use Rattle.state.specs.View.{level_at, levels_from, status_of, kept_cuts, inputs_of, core_over, core_of, view}
use Rattle.state.specs.declared.Search.{Search}
use Rattle.level_conditions.specs.Nested.{level_passes}
use Rattle.level_conditions.proofs.LevelLoops.{next_passes, by_depth}
use Rattle.conditions.proofs.Sizes.{Sized, sized}
use Rattle.conditions.proofs.Views.{constraints-view, divisors-view}

-- ---- the levels
-- two tests at every element are one
both_of : {A : Type 0} (t u : A → Bool) (xs : List A) → (all_of t xs && all_of u xs) ≡ all_of (λ x. t x && u x) xs
unfolding all_of
both_of t u [] = refl
both_of t u (x ∷ xs) = rw (← both_of t u xs) (apart (t x) (u x) (all_of t xs) (all_of u xs))
  where
    apart : (a b c d : Bool) → ((a && c) && (b && d)) ≡ ((a && b) && (c && d))
    apart false b c d = refl
    apart true true c d = refl
    apart true false c d = and-false c

pub levels-view : (s : Search) →
    (level_passes (s.m + s.made) (thresholds_of s.n s.thresholds) (level_at s.n s.levels 0) &&
    all_of (next_passes s.n (s.m + s.made) (thresholds_of s.n s.thresholds) s.levels) (tab (λ k. k) 0 s.depth)) ≡
    ((levels_valid (core_of s) && all_of (level_allowed (core_of s).thresholds) (model.levels (core_of s))) && nested_valid s.n (core_of s).deepest (core_of s).outer)
unfolding levels_valid level_passes model.levels core_of core_over inputs_of
levels-view s =
    let ts = thresholds_of s.n s.thresholds in
    let ls = level_at s.n s.levels s.depth ∷ levels_from s.n s.levels s.depth in
    rw (length-tab (input_at s.n s.rows s.divisors) 0 s.m, both_of (level_valid (s.m + s.made)) (level_allowed ts) ls) (by_depth s.n (s.m + s.made) ts s.levels s.depth)

-- ---- the parts in the code's order: the thresholds early, and the gaps of a level with its bounds
regrouped : (sizes rows divisors numbers levels nested mark thresholds allowed limit : Bool) →
    ((sizes && (rows && (divisors && (numbers && (levels && (nested && (mark && ((thresholds && allowed) && true)))))))) && limit) ≡
    (sizes && (rows && (divisors && (thresholds && (numbers && (((levels && allowed) && nested) && (mark && limit)))))))
regrouped sizes rows divisors numbers levels nested mark thresholds allowed limit = grind arith

pub parts : (s : Search) → admitted (view s) ≡
    (scalars_valid (view s) &&
    (all_of in_range (tab (row_at s.n s.rows) 0 (s.m + kept_cuts s.made)) &&
    (all_of divisor_in_range (inputs_of s) &&
    (all_of is_threshold (thresholds_of s.n s.thresholds) &&
    (numbers_valid (core_of s) &&
    (((levels_valid (core_of s) && all_of (level_allowed (core_of s).thresholds) (model.levels (core_of s))) && nested_valid s.n (core_of s).deepest (core_of s).outer) &&
    (status_valid (core_of s) (status_of s.status) && leb s.propagations max_propagations)))))))
unfolding admitted valid all within_limit thresholds_valid view core_of core_over
parts s =
    rw (← constraints-view s, ← divisors-view s)
    (regrouped (scalars_valid (view s)) (constraints_valid (core_of s)) (divisors_valid (core_of s)) (numbers_valid (core_of s)) (levels_valid (core_of s))
    (nested_valid s.n (core_of s).deepest (core_of s).outer) (status_valid (core_of s) (status_of s.status)) (all_of is_threshold (thresholds_of s.n s.thresholds))
    (all_of (level_allowed (thresholds_of s.n s.thresholds)) (model.levels (core_of s))) (leb s.propagations max_propagations))

-- ---- what the sizes tell
pub passed : (s : Search) (r : Bool) → r ≡ scalars_valid (view s) → r ≡ true → Sized s
passed s r e t = sized s (sym e ∙ t)
