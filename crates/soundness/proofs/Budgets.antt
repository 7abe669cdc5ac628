-- Two searches that differ in their budgets alone take the same turns until the smaller budget is spent.
use Prim.Native.Nat.{ℕ, zero, suc, ◌+◌, ◌-◌, ◌≤◌, ◌<◌}
use native.Mathlib.Omega.{arith}
use mathlib.Core.Logic.{◌⊎◌, inl, inr}
use mathlib.Core.Option.{Option, none, some}
use mathlib.Core.Path.{◌≡◌, refl, sym, ap, ◌∙◌}
use Rattle.model_problems.specs.Problem.{Problem, variables}
use Rattle.model_walk.specs.Search.{Core, Status, undecided, infeasible, solved, Search, level_of, core_of, open_problem}
use Rattle.model_walk.specs.Move.{descend}
use Rattle.model_walk.specs.Conflict.{at_conflict}
use Rattle.model_walk.specs.Step.{Verdict, go_on, no_solution, out_of_budget, solution, Outcome, propagated, solved_by, budget_spent, counted, on_conflict, ended_at, ended, again, step_by, step, continue, run_for, without_block, run}
use Rattle.model_claims.specs.Demand.{with_budget, verdict_with}
use Rattle.validity.proofs.Steps.{spent-or-counted, impossible}

-- the search under another budget
abbrev under : Search → ℕ → Search
under s b = record { core = s.core; budget = b; conflicts = s.conflicts; propagations = s.propagations; status = s.status }

module _ (b c : ℕ) (less : b ≤ c) where
  -- x is the answer under b and y that under c: the same verdict, and where it goes on the same state but for the budget
  record Beside (s : Search) (x y : Outcome) : Type 0 where
    verdict : x.verdict ≡ y.verdict
    next : x.verdict ≡ go_on → (n : Search) × (x.state ≡ under n b) × (y.state ≡ under n c) × (n.conflicts ≡ suc s.conflicts) × (s.conflicts < b)

  Either : Search → Outcome → Outcome → Type 0
  Either s x y = (x.verdict ≡ out_of_budget) ⊎ Beside s x y

  ended-beside : (s : Search) (d : Core) (e : Option ℕ) → s.conflicts ≤ b → Either s (ended_at (under s b) d e) (ended_at (under s c) d e)
  unfolding Either ended_at
  ended-beside s d none h = unfold solved_by in inr (record { verdict = refl; next = λ g. impossible (cc) })
  ended-beside s d (some j) h =
      spent-or-counted (λ x. Either s x (on_conflict (under s c) d j)) (under s b) d j h (λ e. unfold budget_spent in inl refl)
      (λ l.
      spent-or-counted (λ y. Either s (counted (under s b) (at_conflict d j)) y) (under s c) d j (omega arith) (λ e. let z : ⊥ = omega arith in absurd z)
      (λ k. unfold counted propagated in inr (record { verdict = refl; next = λ g. ((counted s (at_conflict d j)).state, refl, refl, refl, l) })))

  step-beside : (m : Status) (s : Search) → s.conflicts ≤ b → Either s (step_by m (under s b)) (step_by m (under s c))
  unfolding step_by ended again Either
  step-beside undecided s h = ended-beside s (descend s.core).core (descend s.core).falsified h
  step-beside infeasible s h = inr (record { verdict = refl; next = λ g. impossible (cc) })
  step-beside solved s h = inr (record { verdict = refl; next = λ g. impossible (cc) })

  -- a run stops with the first verdict, and goes on where a step does
  continued : (v : Verdict) (o : Outcome) (go : Search → Outcome) → o.verdict ≡ v → ¬ (v ≡ go_on) → (continue o.verdict o go).verdict ≡ v
  continued v o go e n = ap (λ (w : Verdict). (continue w o go).verdict) e ∙ last v e n
    where
      last : (v : Verdict) → o.verdict ≡ v → ¬ (v ≡ go_on) → (continue v o go).verdict ≡ v
      last go_on e n = absurd (n refl)
      last no_solution e n = unfold continue in e
      last out_of_budget e n = unfold continue in e
      last (solution x) e n = unfold continue in e

  stops : (fuel : ℕ) (s : Search) (v : Verdict) → (step s).verdict ≡ v → ¬ (v ≡ go_on) → (run_for fuel s).verdict ≡ v
  unfolding run_for
  stops zero s v e n = e
  stops (suc fuel) s v e n = continued v (step s) (run_for fuel) e n

  goes : (fuel : ℕ) (s : Search) → (step s).verdict ≡ go_on → run_for (suc fuel) s ≡ run_for fuel (step s).state
  unfolding run_for continue
  goes fuel s e = ap (λ (v : Verdict). continue v (step s) (run_for fuel)) e

  -- of runs with enough turns: the same verdict, or 'spent' under b
  abbrev Ran : ℕ → ℕ → Search → Type 0
  Ran f g s = ((run_for f (under s b)).verdict ≡ (run_for g (under s c)).verdict) ⊎ ((run_for f (under s b)).verdict ≡ out_of_budget)

  by-verdict : (f g : ℕ) (s : Search) (v : Verdict) → (step (under s b)).verdict ≡ v → Beside s (step (under s b)) (step (under s c)) → (v ≡ go_on → Ran f g s) → Ran f g s
  by-verdict f g s go_on e q on = on refl
  by-verdict f g s no_solution e q on = inl (stops f (under s b) no_solution e (λ n. impossible (cc)) ∙ sym (stops g (under s c) no_solution (sym q.verdict ∙ e) (λ n. impossible (cc))))
  by-verdict f g s out_of_budget e q on = inr (stops f (under s b) out_of_budget e (λ n. impossible (cc)))
  by-verdict f g s (solution x) e q on = inl (stops f (under s b) (solution x) e (λ n. impossible (cc)) ∙ sym (stops g (under s c) (solution x) (sym q.verdict ∙ e) (λ n. impossible (cc))))

  by-step : (f g : ℕ) (s : Search) → ((step (under s b)).verdict ≡ go_on → Beside s (step (under s b)) (step (under s c)) → Ran f g s) → Either s (step (under s b)) (step (under s c)) → Ran f g s
  unfolding Either
  by-step f g s on (inl e) = inr (stops f (under s b) out_of_budget e (λ n. impossible (cc)))
  by-step f g s on (inr q) = by-verdict f g s (step (under s b)).verdict refl q (λ e. on e q)

  either : (s : Search) → s.conflicts ≤ b → Either s (step (under s b)) (step (under s c))
  unfolding step
  either s h = step-beside s.status s h

  runs : (f g : ℕ) (s : Search) → s.conflicts + f ≡ b → s.conflicts + g ≡ c → Ran f g s
  runs zero g s h k = by-step zero g s (λ e q. let z : ⊥ = omega (arith, (q.next e).4) in absurd z) (either s (omega arith))
  runs (suc f) zero s h k = let z : ⊥ = omega arith in absurd z
  runs (suc f) (suc g) s h k =
      by-step (suc f) (suc g) s
      (λ e q.
      let n = q.next e in
      let l : run_for (suc f) (under s b) ≡ run_for f (under n.0 b) = goes f (under s b) e ∙ ap (run_for f) n.1 in
      let r : run_for (suc g) (under s c) ≡ run_for g (under n.0 c) = goes g (under s c) (sym q.verdict ∙ e) ∙ ap (run_for g) n.2 in
      rw (l, r) (runs f g n.0 (omega (arith, n.3)) (omega (arith, n.3))))
      (either s (omega arith))

  pub smaller-budget : (p : Problem) → (verdict_with p b ≡ verdict_with p c) ⊎ (verdict_with p b ≡ out_of_budget)
  unfolding verdict_with with_budget run without_block open_problem core_of level_of variables
  smaller-budget p = runs (b - 0) (c - 0) (open_problem p) (omega arith) (omega arith)
