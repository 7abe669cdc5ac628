-- Runs of a problem under any budget, in a file or not: the verdict is right, and there is only one right verdict.
use Prim.Native.Nat.{ℕ, zero, suc, ◌+◌, ◌-◌, ◌<◌}
use native.Mathlib.Omega.{arith}
use mathlib.Core.List.{List, [], ◌∷◌, ◌++◌, map}
use mathlib.Core.Path.{◌≡◌, refl, sym, ap, ◌∙◌}
use lib.Dec.{T}
use lib.IntN.{nat_abs}
use lib.ListN.{length, replicate, length-replicate}
use Rattle.model_problems.specs.Lists.{tab, all_of}
use Rattle.model_problems.specs.Constraint.{Constraint, modulus, in_range, divisor_in_range, rounded}
use Rattle.model_problems.specs.Problem.{Problem, variables, domain_in_range, thresholds_in_range, constraints_in_range, divisors_in_range}
use Rattle.model_walk.specs.Search.{no_reasons, Search, kept, levels, level_of, core_of, open_problem}
use Rattle.model_walk.specs.Validity.{reason_valid, reasons_valid}
use Rattle.model_problems.specs.Points.{Point, points, Solution, First}
use Rattle.model_walk.specs.Step.{Verdict, go_on, no_solution, out_of_budget, solution, Outcome, step, continue, run_for, without_block, run}
use Rattle.integer.specs.Tests.{and_left, and_right}
use Rattle.validity.proofs.Boxes.{nested-refl}
use Rattle.soundness.proofs.Sizes.{points-size}
use Rattle.validity.proofs.Constraints.{Inequality, rounded-meets, rounded-divisor, rounded-length, rounded-in-range}
use Rattle.validity.proofs.Limits.{fits-outside}
use Rattle.validity.proofs.States.{Every, ConstraintFits, CoreFits, level-ordered}
use Rattle.validity.proofs.Conflicts.{MeetsInequalities}
use Rattle.soundness.proofs.Opened.{Implied}
use Rattle.soundness.proofs.OneStep.{Open, Says, step-says, shown-first}

-- ---- opening: a problem with its limits and constraints in range, each constraint of n coefficients
pub record ProblemFits (p : Problem) : Type 0 where
  pub domain : T (domain_in_range p)
  pub thresholds : T (thresholds_in_range p)
  pub constraints : T (constraints_in_range p)
  pub divisors : T (divisors_in_range p)
  pub sizes : Every (λ (k : Constraint). length k.coefficients ≡ variables p) p.constraints

rounded-fit : (n : ℕ) (ks : List Constraint) → T (all_of in_range ks) → Every (λ (k : Constraint). length k.coefficients ≡ n) ks → Every (ConstraintFits n) (map rounded ks ++ [])
unfolding all_of
rounded-fit n [] t e = tt
rounded-fit n (k ∷ ks) t e = (
  record { range = rounded-in-range k (and_left (in_range k) (all_of in_range ks) t); size = rounded-length k ∙ e.0 },
  rounded-fit n ks (and_right (in_range k) (all_of in_range ks) t) e.1,
)

no-valid-reasons : (last n : ℕ) → T (all_of (reasons_valid last) (replicate n no_reasons))
unfolding all_of reasons_valid reason_valid
no-valid-reasons last zero = tt
no-valid-reasons last (suc n) = no-valid-reasons last n

rounded-divisors : (ks : List Constraint) → all_of divisor_in_range (map rounded ks) ≡ all_of divisor_in_range ks
unfolding all_of divisor_in_range
rounded-divisors [] = refl
rounded-divisors (k ∷ ks) = rw (rounded-divisor k, rounded-divisors ks)

-- rounding keeps the sort of a constraint, and each rounded inequality follows from its own
rounded-implied : (p : Problem) (ks : List Constraint) → ((x : Point) → MeetsInequalities x p.constraints → MeetsInequalities x ks) →
    Every (λ k. Inequality k → Implied p k) (map rounded ks ++ [])
unfolding modulus
rounded-implied p [] f = tt
rounded-implied p (k ∷ ks) f =
    (λ e x m. (rounded-meets k x).1 ((f x m).0 (ap nat_abs (sym (rounded-divisor k)) ∙ e)), rounded-implied p ks (λ x m. (f x m).1))

pub opened-fits : (p : Problem) → ProblemFits p → CoreFits (core_of p)
unfolding core_of level_of kept levels tab variables domain_in_range thresholds_in_range constraints_in_range divisors_in_range
opened-fits p f =
    let t = fits-outside p.thresholds p.domain f.thresholds f.domain in
    record {
      constraints = rounded-fit (length p.domain) p.constraints f.constraints f.sizes;
      divisors = rw (rounded-divisors p.constraints) f.divisors;
      inequalities = tt;
      cuts = omega arith;
      numbers = refl;
      levels = (record { box = refl; reasons = length-replicate (length p.domain) no_reasons; range = f.domain; valid-reasons = no-valid-reasons (length (map rounded p.constraints) + 0) (length p.domain) }, tt);
      thresholds = t.0;
      outside = (t.1, tt);
      stacked = tt;
    }

-- every solution is left
pub opened-open : (p : Problem) → ProblemFits p → Open p (Solution p) 0 (open_problem p)
unfolding open_problem levels
opened-open p f =
    let c = opened-fits p f in
    record {
      room = points p;
      sound = unfold core_of level_of kept in record {
        fits = c;
        variables = refl;
        thresholds = refl;
        inputs = refl;
        implied = rounded-implied p p.constraints (λ x m. m);
        chain = (level-ordered _ _ (level_of p) c.levels.0, nested-refl p.domain, c.outside.0);
        solves = λ x z. z;
        cover = λ x z. z.inside;
        exact = λ x z r. z;
        left = omega (arith, points-size p);
      };
      total = omega arith;
      budget = refl;
      afford = omega arith;
      creeps = omega arith;
      status = refl;
    }

-- ---- a right verdict
abbrev pub Right : Problem → Verdict → Type 0
Right p go_on = ⊥
Right p no_solution = (x : Point) → Solution p x → ⊥
Right p out_of_budget = p.budget < points p
Right p (solution x) = First p x

continue-right : (p : Problem) (s : Search) (o : Outcome) (v : Verdict) (go : Search → Outcome) → o.verdict ≡ v → Says p (Solution p) 0 s o v →
    (Open p (Solution p) 0 o.state → o.state.conflicts ≡ suc s.conflicts → Right p (go o.state).verdict) → Right p (continue v o go).verdict
unfolding continue
continue-right p s o go_on go e h next = next h.0 h.1
continue-right p s o no_solution go e h next = rw e h.none_left
continue-right p s o out_of_budget go e h next = rw e h.1
continue-right p s o (solution x) go e h next = rw e (shown-first p (Solution p) 0 o.state x h)

run-for-right : (p : Problem) (fuel : ℕ) (s : Search) → Open p (Solution p) 0 s → s.conflicts + fuel ≡ s.budget → Right p (run_for fuel s).verdict
unfolding run_for
run-for-right p zero s o h =
    let t = step-says p (Solution p) 0 s o in
    last (step s) (step s).verdict t.says
  where
    last : (a : Outcome) (v : Verdict) → Says p (Solution p) 0 s a v → Right p v
    last a go_on q = let z : ⊥ = omega (arith, q.1, q.0.afford, q.0.budget, o.budget) in absurd z
    last a no_solution q = q.none_left
    last a out_of_budget q = q.1
    last a (solution x) q = shown-first p (Solution p) 0 a.state x q
run-for-right p (suc fuel) s o h =
    let t = step-says p (Solution p) 0 s o in
    continue-right p s (step s) (step s).verdict (run_for fuel) refl t.says
    (λ n c. run-for-right p fuel (step s).state n (omega (arith, c, n.budget, o.budget)))

pub run-right : (p : Problem) → ProblemFits p → Right p (run (open_problem p)).verdict
unfolding run without_block
run-right p f =
    run-for-right p ((open_problem p).budget - (open_problem p).conflicts) (open_problem p) (opened-open p f) (unfold open_problem in omega arith)
