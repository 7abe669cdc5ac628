-- A problem in arrays, test by test: where one fails the refusal is its error.
use Rattle.std.specs.Prelude.{Ok, Err}
use Prim.Native.Nat.{ℕ, ◌≤◌}
use native.Mathlib.Omega.{arith}
use mathlib.Core.Bool.{Bool, true, false}
use mathlib.Core.List.{List}
use mathlib.Core.Path.{◌≡◌, refl, sym, ◌∙◌}
use lib.IntN.{ℤ}
use lib.ListN.{length}
use Rattle.model_problems.specs.Lists.{tab, all_of, all_pairs}
use Rattle.model_problems.specs.Constraint.{in_range, divisor_in_range}
use Rattle.model_problems.specs.Threshold.{threshold_fits}
use Rattle.model_problems.specs.Problem.{variables, sizes_in_range, bounds_in_range, domain_in_range, thresholds_in_range, constraints_in_range, divisors_in_range, first_error}
use Rattle.model_problems.specs.Ranges.{max_variables, max_constraints}
use Rattle.model_acceptance.specs.Acceptable.{problem_error}
use Rattle.lists.proofs.Bools.{said-no, said-yes}
use Rattle.lists.proofs.Tab.{length-tab}
use Rattle.format.proofs.AcceptedShape.{Sizes, sizes}
use Rattle.layout.specs.Rows.{row_at, input_at, box_of, thresholds_of}
use Rattle.layout.specs.Sizes.{sizes_fit}
use Rattle.layout.proofs.Limits.{sizes-fit}
use Rattle.layout.proofs.Ranges.{inputs-range}
use Rattle.layout.proofs.Rows.{length-box}
use Rattle.problem.specs.declared.Refusal.TheVariants.{SizeRange, DomainRange, CoefficientRange, DivisorRange, ThresholdRange}
use Rattle.problem.specs.declared.Refusal.{Refusal}
use Rattle.problem.specs.declared.Problem.{Problem}
use Rattle.problem.specs.Answer.{number, number_of}
use Rattle.problem.specs.View.{problem_of}

module _ (p : Problem) where
  abbrev Refused : Refusal → Type 0
  Refused e = number_of {A = Unit {0}} (Err e) ≡ problem_error (problem_of p)

  -- ---- the sizes
  pub variable-count : variables (problem_of p) ≡ p.n
  unfolding variables problem_of
  variable-count = length-box p.n p.lower p.upper

  pub constraint-count : length (problem_of p).constraints ≡ p.m
  unfolding problem_of
  constraint-count = length-tab (input_at p.n p.constraints p.divisors) 0 p.m

  -- the code's test of the three numbers
  sizes-are : (r : Bool) → r ≡ sizes_fit p.n p.m p.budget → r ≡ sizes_in_range (problem_of p)
  unfolding problem_of
  sizes-are r t = t ∙ sizes-fit p.n p.m p.budget (problem_of p) variable-count constraint-count refl

  pub sized : (r : Bool) → r ≡ sizes_fit p.n p.m p.budget → r ≡ true → sizes_in_range (problem_of p) ≡ true
  sized r t h = said-yes (sizes-are r t) h

  pub size-range : (r : Bool) → r ≡ sizes_fit p.n p.m p.budget → r ≡ false → Refused SizeRange
  unfolding number_of number problem_error first_error
  size-range r t h = rw (said-no (sizes-are r t) h)

  -- ---- the other numbers
  module _ (t₄ : sizes_in_range (problem_of p) ≡ true) where
    in-range : Sizes (problem_of p)
    in-range = sizes (problem_of p) t₄

    pub variables-few : p.n ≤ max_variables
    variables-few = omega (arith, in-range.few-variables, variable-count)

    pub constraints-few : p.m ≤ max_constraints
    constraints-few = omega (arith, in-range.few-constraints, constraint-count)

    -- what the code tests of them, which is what the model does
    abbrev Bounded : Bool
    Bounded = all_of bounds_in_range (box_of p.n p.lower p.upper)

    abbrev Fitting : Bool
    Fitting = all_pairs threshold_fits (thresholds_of p.n p.thresholds) (box_of p.n p.lower p.upper)

    abbrev Light : Bool
    Light = all_of in_range (tab (row_at p.n p.constraints) 0 p.m)

    abbrev Divided : Bool → Type 0
    Divided r = (n : ℕ) (rows : List ℤ) → r ≡ all_of divisor_in_range (tab (input_at n rows p.divisors) 0 p.m)

    light-is : Light ≡ constraints_in_range (problem_of p)
    unfolding constraints_in_range problem_of
    light-is = sym (inputs-range p.n p.constraints p.divisors 0 p.m)

    divided-is : (r : Bool) → Divided r → r ≡ divisors_in_range (problem_of p)
    unfolding divisors_in_range problem_of
    divided-is r e = e p.n p.constraints

    pub domain-range : (r : Bool) → r ≡ Bounded → r ≡ false → Refused DomainRange
    unfolding number_of number problem_error first_error
    domain-range r e h = let t : domain_in_range (problem_of p) ≡ false = (unfold domain_in_range problem_of in said-no e h) in rw (t₄, t)

    module _ (t₅ : Bounded ≡ true) where
      t₅' : domain_in_range (problem_of p) ≡ true
      unfolding domain_in_range problem_of
      t₅' = t₅

      pub threshold-range : (r : Bool) → r ≡ Fitting → r ≡ false → Refused ThresholdRange
      unfolding number_of number problem_error first_error
      threshold-range r e h = let t : thresholds_in_range (problem_of p) ≡ false = (unfold thresholds_in_range problem_of in said-no e h) in rw (t₄, t₅', t)

      module _ (t₁₃ : Fitting ≡ true) where
        t₁₃' : thresholds_in_range (problem_of p) ≡ true
        unfolding thresholds_in_range problem_of
        t₁₃' = t₁₃

        pub coefficient-range : (r : Bool) → r ≡ Light → r ≡ false → Refused CoefficientRange
        unfolding number_of number problem_error first_error
        coefficient-range r e h = rw (t₄, t₅', t₁₃', said-no (e ∙ light-is) h)

        module _ (t₆ : Light ≡ true) where
          t₆' : constraints_in_range (problem_of p) ≡ true
          t₆' = sym light-is ∙ t₆

          pub divisor_range : (r : Bool) → Divided r → r ≡ false → Refused DivisorRange
          unfolding number_of number problem_error first_error
          divisor_range r e h = rw (t₄, t₅', t₁₃', t₆', said-no (divided-is r e) h)

          pub no-error : (r : Bool) → Divided r → r ≡ true → number_of {A = Unit {0}} (Ok tt) ≡ problem_error (problem_of p)
          unfolding number_of problem_error first_error
          no-error r e h = rw (t₄, t₅', t₁₃', t₆', said-yes (divided-is r e) h)
