-- The sizes of a problem, as the model and as the code tests them.
use Prim.Native.Nat.{ℕ, ◌≤◌}
use mathlib.Core.Bool.{true}
use mathlib.Core.Path.{◌≡◌}
use lib.Dec.{leb}
use lib.ListN.{length}
use borrow.Author.Tests.{leb-true}
use Rattle.model_problems.specs.Lists.{all}
use Rattle.model_problems.specs.Problem.{Problem, variables, sizes_in_range}
use Rattle.model_problems.specs.Ranges.{max_variables, max_constraints, max_budget}
use Rattle.lists.proofs.Bools.{and-true as and_parts}
use Rattle.layout.specs.Sizes.{sizes_fit}

pub sizes-fit : (n m budget : ℕ) (p : Problem) → variables p ≡ n → length p.constraints ≡ m → p.budget ≡ budget → sizes_fit n m budget ≡ sizes_in_range p
unfolding sizes_in_range sizes_fit
sizes-fit n m budget p en em eb = rw (en, em, eb)

pub fit-sizes : (n m budget : ℕ) → sizes_fit n m budget ≡ true → (1 ≤ n) × (n ≤ max_variables) × (m ≤ max_constraints) × (budget ≤ max_budget)
unfolding sizes_fit all
fit-sizes n m budget e =
    let e₁ = and_parts (leb 1 n) _ e in
    let e₂ = and_parts (leb n max_variables) _ e₁.1 in
    let e₃ = and_parts (leb m max_constraints) _ e₂.1 in
    let e₄ = and_parts (leb budget max_budget) true e₃.1 in
    (leb-true _ _ e₁.0, leb-true _ _ e₂.0, leb-true _ _ e₃.0, leb-true _ _ e₄.0)
