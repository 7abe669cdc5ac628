-- Ranges: loops that go up while the bounds of a box are in range, where the premises of a law are the facts that stand where the code goes on or returns; and the divisors of inputs.
use Prim.Native.Nat.{ℕ, ◌+◌, ◌<◌, ◌≤◌}
use mathlib.Core.Bool.{Bool, true, false}
use mathlib.Core.List.{List}
use mathlib.Core.Path.{◌≡◌, sym, ap, ◌∙◌}
use lib.IntN.{ℤ, pos}
use lib.ListN.{length, take, get_or}
use mir.Syntax.{w64}
use mir.Val.{SFits}
use mir.Facts.{to_z-of_z}
use Rattle.model_problems.specs.Lists.{tab, all_of}
use Rattle.model_problems.specs.Constraint.{in_range, is_divisor, divisor_in_range}
use Rattle.model_problems.specs.Problem.{bounds_in_range}
use Rattle.lists.proofs.Tab.{tab-front}
use Rattle.lists.proofs.AllOf.{all_of-tab}
use Rattle.lists.proofs.Bools.{said-no, said-yes}
use Rattle.lists.proofs.Loops.{every-none, every_more, every-end, every-fails}
use Rattle.layout.specs.Rows.{number_in, constraint_at, divided_at, row_at, input_at, bounds_at, box_of}
use Rattle.layout.proofs.Elements.{back}

-- ---- a box
module _ (lower upper : List ℤ) where
  pub box-none : all_of bounds_in_range (box_of 0 lower upper) ≡ true
  unfolding box_of
  box-none = every-none bounds_in_range (bounds_at lower upper)

  pub box-end : (n i : ℕ) → n ≤ i → i ≤ n → all_of bounds_in_range (box_of i lower upper) ≡ true → true ≡ all_of bounds_in_range (box_of n lower upper)
  unfolding box_of
  box-end n i l h a = every-end bounds_in_range (bounds_at lower upper) n i l h a

  module _ (i : ℕ) (f : SFits w64 (get_or lower i (pos 0))) (g : SFits w64 (get_or upper i (pos 0))) (r : Bool)
      (t : r ≡ bounds_in_range (record { lower = back (get_or lower i (pos 0)); upper = back (get_or upper i (pos 0)) })) where
    here : r ≡ bounds_in_range (bounds_at lower upper i)
    unfolding bounds_at number_in
    here = rw (to_z-of_z f, to_z-of_z g) at t

    pub box-more : all_of bounds_in_range (box_of i lower upper) ≡ true → r ≡ true → all_of bounds_in_range (box_of (i + 1) lower upper) ≡ true
    unfolding box_of
    box-more a h = every_more bounds_in_range (bounds_at lower upper) i a (said-yes here h)

    pub box-fails : (n : ℕ) → i < n → r ≡ false → false ≡ all_of bounds_in_range (box_of n lower upper)
    unfolding box_of
    box-fails n l h = every-fails bounds_in_range (bounds_at lower upper) n i l (said-no here h)

-- ---- inputs: their numbers are those of their rows, and their divisors stand apart
module _ (n : ℕ) (rows divisors : List ℤ) where
  pub inputs-range : (i count : ℕ) → all_of in_range (tab (input_at n rows divisors) i count) ≡ all_of in_range (tab (row_at n rows) i count)
  unfolding in_range input_at divided_at row_at constraint_at
  inputs-range i count = all_of-tab in_range (input_at n rows divisors) i count ∙ sym (all_of-tab in_range (row_at n rows) i count)

  pub divisors-range : (m : ℕ) → m ≤ length divisors → all_of is_divisor (take m divisors) ≡ all_of divisor_in_range (tab (input_at n rows divisors) 0 m)
  unfolding divisor_in_range input_at divided_at number_in
  divisors-range m h =
      ap (all_of is_divisor) (tab-front divisors (pos 0) m h) ∙ all_of-tab is_divisor (number_in divisors) 0 m ∙
      sym (all_of-tab divisor_in_range (input_at n rows divisors) 0 m)
