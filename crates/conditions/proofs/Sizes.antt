-- What it tells that the sizes passed.
use Prim.Native.Nat.{◌≤◌}
use native.Mathlib.Omega.{arith}
use mathlib.Core.Bool.{true}
use mathlib.Core.Path.{◌≡◌, sym, ◌∙◌}
use lib.Dec.{leb}
use borrow.Author.Tests.{leb-true}
use Rattle.model_problems.specs.Ranges.{max_variables, max_constraints, max_budget}
use Rattle.model_walk.specs.Validity.{scalars_valid}
use Rattle.lists.proofs.Bools.{and-true}
use Rattle.layout.specs.Sizes.{sizes_fit}
use Rattle.layout.proofs.Limits.{fit-sizes}
use Rattle.state.specs.View.{view}
use Rattle.state.specs.declared.Search.{Search}
use Rattle.conditions.proofs.Views.{sizes-view}

-- what indices and sums need of the sizes
pub record Sized (s : Search) : Type 0 where
  pub variables : s.n ≤ max_variables
  pub constraints : s.m ≤ max_constraints
  pub cuts : s.made ≤ max_budget
  pub levels : s.depth ≤ s.n

pub sized : (s : Search) → scalars_valid (view s) ≡ true → Sized s
sized s e =
    let f = and-true (sizes_fit s.n s.m s.budget) _ (sym (sizes-view s) ∙ e) in
    let sizes = fit-sizes s.n s.m s.budget f.0 in
    let e₁ = and-true (leb s.depth s.n) _ f.1 in
    let e₂ = and-true (leb s.conflicts s.budget) (leb s.made s.conflicts) e₁.1 in
    let conflicts : s.conflicts ≤ s.budget = leb-true _ _ e₂.0 in
    let made : s.made ≤ s.conflicts = leb-true _ _ e₂.1 in
    record { variables = omega arith; constraints = omega arith; cuts = omega arith; levels = leb-true _ _ e₁.0 }
