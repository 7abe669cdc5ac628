-- The levels by depth: level 0 passes, and each one below it passes and is nested in the one above; in the model's words every level passes, and the deepest is nested in all.
use Prim.Native.Nat.{ℕ, zero, suc, ◌+◌}
use native.Mathlib.Omega.{arith}
use native.Mathlib.Numerals.{add-one}
use mathlib.Core.Bool.{Bool, true, ◌&&◌, and_assoc, and-true}
use mathlib.Core.List.{List, [], ◌∷◌}
use mathlib.Core.Path.{◌≡◌, sym, ap, ◌∙◌}
use lib.IntN.{ℤ}
use Rattle.model_problems.specs.Lists.{tab, all_of}
use Rattle.model_walk.specs.Search as model
use Rattle.model_walk.specs.Validity.{box_inside, decision_valid, nested_valid}
use Rattle.lists.proofs.Tab.{tab-none, tab-more}
use Rattle.lists.proofs.AllOf.{all_of-append}
use Rattle.state.specs.View.{level_at, levels_from}
use Rattle.state.specs.declared.Level.{Level}
use Rattle.level_conditions.specs.Nested.{level_passes, nested_in}

module _ (n last : ℕ) (ts : List ℤ) (levels : List Level) where
  -- the level below d
  unfoldable pub next_passes : ℕ → Bool
  next_passes d = level_passes last ts (level_at n levels (d + 1)) && nested_in n (level_at n levels (d + 1)) (level_at n levels d)

  -- one level more, with what the levels above it say
  one_more : (first steps all nested level box decision : Bool) → (first && steps) ≡ (all && nested) →
      (first && (steps && ((level && (box && decision)) && true))) ≡ ((level && all) && (box && (decision && nested)))
  one_more first steps all nested level box decision e =
      sym (and_assoc first steps ((level && (box && decision)) && true)) ∙ ap (λ (b : Bool). b && ((level && (box && decision)) && true)) e ∙ sorted all nested level box decision
    where
      sorted : (all nested level box decision : Bool) → ((all && nested) && ((level && (box && decision)) && true)) ≡ ((level && all) && (box && (decision && nested)))
      sorted all nested level box decision = grind arith

  first : Bool
  first = level_passes last ts (level_at n levels 0)

  steps : ℕ → Bool
  steps d = all_of next_passes (tab (λ k. k) 0 d)

  steps-more : (d : ℕ) → steps (suc d) ≡ (steps d && (next_passes d && true))
  unfolding all_of steps
  steps-more d = ap (λ (k : ℕ). all_of next_passes (tab (λ k. k) 0 k)) (sym (add-one d)) ∙ ap (all_of next_passes) (tab-more (λ k. k) d) ∙ all_of-append next_passes (tab (λ k. k) 0 d) (d ∷ [])

  -- the levels from depth d up, under a level x
  under : ℕ → model.Level → Bool
  under d x = all_of (level_passes last ts) (x ∷ level_at n levels d ∷ levels_from n levels d) && nested_valid n x (level_at n levels d ∷ levels_from n levels d)

  pub by_depth : (d : ℕ) →
      (level_passes last ts (level_at n levels 0) && all_of next_passes (tab (λ k. k) 0 d)) ≡
      (all_of (level_passes last ts) (level_at n levels d ∷ levels_from n levels d) && nested_valid n (level_at n levels d) (levels_from n levels d))
  unfolding all_of levels_from nested_valid nested_in next_passes first steps under
  by_depth zero = rw (tab-none (λ (k : ℕ). k) 0) (sym (and-true (level_passes last ts (level_at n levels 0) && true)))
  by_depth (suc d) =
      ap (λ (b : Bool). first && b) (steps-more d) ∙
      one_more first (steps d) _ _ (level_passes last ts (level_at n levels (d + 1))) (box_inside (level_at n levels (d + 1)).box (level_at n levels d).box)
      (decision_valid n (level_at n levels (d + 1)).decided (level_at n levels (d + 1)).box (level_at n levels d).box) (by_depth d) ∙
      ap (λ (k : ℕ). under d (level_at n levels k)) (add-one d)
