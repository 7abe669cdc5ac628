-- The model's tests of a state's view, in the terms of its arrays.
use Prim.Native.Nat.{ℕ, ◌+◌}
use native.Mathlib.Omega.{arith}
use mathlib.Core.Bool.{Bool, true, false, ◌&&◌, and-true}
use mathlib.Core.Path.{◌≡◌, refl, sym, ap, ap₂, ◌∙◌}
use lib.Dec.{leb, eqb}
use lib.ListN.{length}
use Rattle.model_problems.specs.Lists.{tab, all, all_of, all_pairs}
use Rattle.model_problems.specs.Ranges.{max_variables, max_constraints, max_budget}
use Rattle.model_problems.specs.Constraint.{in_range, divisor_in_range}
use Rattle.model_walk.specs.Search as model
use Rattle.model_walk.specs.Validity.{scalars_valid, constraints_valid, divisors_valid, cut_number, numbers_valid}
use Rattle.lists.proofs.Tab.{length-tab, tab-ext-0}
use Rattle.lists.proofs.AllOf.{all_of-tab}
use Rattle.layout.specs.Rows.{constraint_at, divided_at, row_at, input_at}
use Rattle.layout.specs.Sizes.{sizes_fit}
use Rattle.state.specs.View.{kept_cuts, dropped_cuts, kept_at, stored_number, core_over, inputs_of, core_of, view}
use Rattle.state.specs.declared.Search.{Search}
use Rattle.state.proofs.Cores.{kept-over, length-levels}
use Rattle.conditions.specs.Sizes.{number_from}

regrouped : (a b c d e : Bool) → (a && (b && (c && (d && e)))) ≡ ((a && (b && (c && (d && true)))) && e)
regrouped false b c d e = refl
regrouped true false c d e = refl
regrouped true true false d e = refl
regrouped true true true false e = refl
regrouped true true true true e = refl

module _ (s : Search) where
  cuts-length : length (core_of s).cuts ≡ kept_cuts s.made
  unfolding core_of core_over
  cuts-length = length-tab (row_at s.n s.rows) s.m (kept_cuts s.made)

  inputs-length : length (inputs_of s) ≡ s.m
  unfolding inputs_of
  inputs-length = length-tab (input_at s.n s.rows s.divisors) 0 s.m

  -- the kept constraints with their divisors
  pub kept-view : model.kept (core_of s) ≡ tab (kept_at s.n s.m s.rows s.divisors) 0 (s.m + kept_cuts s.made)
  unfolding core_of inputs_of
  kept-view = kept-over _ _ _ _ _ _ _ _ _

  stored : (core_of s).numbers ≡ tab (stored_number s.numbers) 0 (kept_cuts s.made)
  unfolding core_of core_over
  stored = refl

  pub sizes-view : scalars_valid (view s) ≡ (sizes_fit s.n s.m s.budget && (leb s.depth s.n && (leb s.conflicts s.budget && leb s.made s.conflicts)))
  unfolding scalars_valid sizes_fit all view model.depth core_of core_over
  sizes-view =
      rw (inputs-length, length-levels s.n s.levels s.depth, and-true (leb s.made s.conflicts))
      (regrouped (leb 1 s.n) (leb s.n max_variables) (leb s.m max_constraints) (leb s.budget max_budget) (leb s.depth s.n && (leb s.conflicts s.budget && leb s.made s.conflicts)))

  pub constraints-view : constraints_valid (core_of s) ≡ all_of in_range (tab (row_at s.n s.rows) 0 (s.m + kept_cuts s.made))
  unfolding constraints_valid in_range kept_at divided_at row_at constraint_at
  constraints-view =
      let count = s.m + kept_cuts s.made in
      ap (all_of in_range) kept-view ∙ all_of-tab in_range (kept_at s.n s.m s.rows s.divisors) 0 count ∙ sym (all_of-tab in_range (row_at s.n s.rows) 0 count)

  pub divisors-view : divisors_valid (core_of s) ≡ all_of divisor_in_range (inputs_of s)
  unfolding divisors_valid core_of core_over
  divisors-view = refl

  number-here : (p : ℕ) → cut_number (core_of s) p ≡ s.m + dropped_cuts s.made + 1 + p
  unfolding cut_number model.dropped core_of core_over
  number-here p = rw inputs-length (omega arith)

  pub numbers-view : numbers_valid (core_of s) ≡
      all_pairs eqb (tab (stored_number s.numbers) 0 (kept_cuts s.made)) (tab (number_from (s.m + dropped_cuts s.made + 1)) 0 (kept_cuts s.made))
  unfolding numbers_valid number_from
  numbers-view =
      ap₂ (all_pairs eqb) stored
      (ap (tab (cut_number (core_of s)) 0) cuts-length ∙ tab-ext-0 (cut_number (core_of s)) _ (kept_cuts s.made) (λ p h. number-here p))
