-- There is one right verdict: what it says with enough budget, and for another problem with the same solutions.
use Prim.Native.Nat.{ℕ, ◌≤◌}
use native.Mathlib.Omega.{arith}
use mathlib.Core.Logic.{◌⊎◌, inl, inr, ◌↔◌}
use mathlib.Core.Path.{◌≡◌, refl, sym, ap}
use Rattle.model_problems.specs.Problem.{Problem, variables, domain_in_range, thresholds_in_range, constraints_in_range, divisors_in_range}
use Rattle.model_problems.specs.Points.{Point, Solution, Before, First, all_points, points}
use Rattle.model_walk.specs.Step.{Verdict, go_on, no_solution, out_of_budget, solution}
use Rattle.model_claims.specs.Demand.{with_budget, verdict_with, Decides, Agree, SameSolutions}
use Rattle.soundness.proofs.Sizes.{before-asym}
use Rattle.validity.proofs.Steps.{impossible}
use Rattle.soundness.proofs.Runs.{ProblemFits, Right, run-right}

-- ---- there is one first solution
one-first : (u v : Point) → (v ≡ u) ⊎ Before u v → (u ≡ v) ⊎ Before v u → u ≡ v
one-first u v (inl h) g = sym h
one-first u v (inr h) (inl g) = g
one-first u v (inr h) (inr g) = absurd (before-asym u v h g)

-- ---- two problems with the same solutions
module _ (p q : Problem) (same : (x : Point) → Solution p x ↔ Solution q x) where
  first-same : (x : Point) → First p x → First q x
  first-same x f = record { solves = (same x).0 f.solves; first = λ v z. f.first v ((same v).1 z) }

  -- a right verdict of p, with enough budget, decides q
  right-decides : (v : Verdict) → Right p v → points p ≤ p.budget → Decides q v
  right-decides go_on h k = absurd h
  right-decides no_solution h k = record { none-iff = (λ e x z. h x ((same x).1 z), λ n. refl); else-first = λ n. absurd (n refl) }
  right-decides out_of_budget h k = let z : ⊥ = omega arith in absurd z
  right-decides (solution x) h k =
      record { none-iff = (λ e. impossible (cc), λ n. absurd (n x ((same x).0 h.solves))); else-first = λ n. (x, refl, first-same x h) }

  -- a right verdict of p is that of q, or one of them is 'spent'
  right-agree : (u v : Verdict) → Right p u → Right q v → Agree u v
  right-agree go_on v h g = absurd h
  right-agree out_of_budget v h g = inr (inl refl)
  right-agree no_solution go_on h g = absurd g
  right-agree no_solution no_solution h g = inl refl
  right-agree no_solution out_of_budget h g = inr (inr refl)
  right-agree no_solution (solution y) h g = absurd (h y ((same y).1 g.solves))
  right-agree (solution x) go_on h g = absurd g
  right-agree (solution x) no_solution h g = absurd (g x ((same x).0 h.solves))
  right-agree (solution x) out_of_budget h g = inr (inr refl)
  right-agree (solution x) (solution y) h g = inl (ap solution (one-first x y (h.first y ((same y).1 g.solves)) (g.first x ((same x).0 h.solves))))

-- ---- budgets
budget-same : (p : Problem) (b : ℕ) (x : Point) → Solution (with_budget p b) x ↔ Solution p x
unfolding with_budget
budget-same p b x = (λ z. record { inside = z.inside; allowed = z.allowed; meets = z.meets }, λ z. record { inside = z.inside; allowed = z.allowed; meets = z.meets })

budget-fits : (p : Problem) (b : ℕ) → ProblemFits p → ProblemFits (with_budget p b)
unfolding with_budget domain_in_range thresholds_in_range constraints_in_range divisors_in_range variables
budget-fits p b f = record { domain = f.domain; thresholds = f.thresholds; constraints = f.constraints; divisors = f.divisors; sizes = f.sizes }

budget-right : (p : Problem) (b : ℕ) → ProblemFits p → Right (with_budget p b) (verdict_with p b)
unfolding verdict_with
budget-right p b f = run-right (with_budget p b) (budget-fits p b f)

enough : (p : Problem) (b : ℕ) → points p ≤ b → points (with_budget p b) ≤ (with_budget p b).budget
unfolding with_budget points all_points
enough p b h = h

pub decides-with : (p : Problem) (b : ℕ) → ProblemFits p → points p ≤ b → Decides p (verdict_with p b)
decides-with p b f h = right-decides (with_budget p b) p (budget-same p b) (verdict_with p b) (budget-right p b f) (enough p b h)

pub same-verdict : (p q : Problem) (b c : ℕ) → ProblemFits p → ProblemFits q → SameSolutions p q → Agree (verdict_with p b) (verdict_with q c)
same-verdict p q b c f g e =
    right-agree (with_budget p b) (with_budget q c)
    (λ x. (λ z. (budget-same q c x).1 ((e x).0 ((budget-same p b x).0 z)), λ z. (budget-same p b x).1 ((e x).1 ((budget-same q c x).0 z))))
    (verdict_with p b) (verdict_with q c) (budget-right p b f) (budget-right q c g)
