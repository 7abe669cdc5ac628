-- A turn, and a run, as turns repeated: the three calls share one loop.
use Prim.Native.Nat.{ℕ, zero, suc, ◌-◌, ◌≤◌}
use native.Mathlib.Omega.{arith}
use mathlib.Core.List.{append-nil}
use mathlib.Core.Option.{Option, none, some}
use mathlib.Core.Path.{◌≡◌, refl, ◌∙◌}
use lib.ListN.{length-append}
use Rattle.model_walk.specs.Search.{Core, Status, undecided, infeasible, solved, Search}
use Rattle.model_walk.specs.Move.{descend}
use Rattle.model_walk.specs.Step.{Verdict, go_on, no_solution, out_of_budget, solution, Outcome, block_in, solved_by, budget_spent, counted, ended_at, ended, again, step_by, step, continue, run_for, without_block, run}
use Rattle.model_walk.specs.Trace.{Trace, with_blocks, last_step, advanced, advance}
use Rattle.validity.specs.Valid.{Valid}
use Rattle.validity.proofs.Steps.{spent-or-counted, step-valid, Counted, step-counted, run_ends}

-- ---- the counts of a turn's answer are those of its state
pub record Told (o : Outcome) : Type 0 where
  pub count : o.count ≡ o.state.conflicts
  pub propagations : o.propagations ≡ o.state.propagations

ended-told : (s : Search) (c : Core) (e : Option ℕ) → s.conflicts ≤ s.budget → Told (ended_at s c e)
unfolding ended_at
ended-told s c none h = unfold solved_by in record { count = refl; propagations = refl }
ended-told s c (some j) h =
    spent-or-counted Told s c j h (λ e. unfold budget_spent in record { count = refl; propagations = refl }) (λ l. unfold counted in record { count = refl; propagations = refl })

by-told : (m : Status) (s : Search) → s.conflicts ≤ s.budget → Told (step_by m s)
unfolding step_by ended again
by-told undecided s h = ended-told s (descend s.core).core (descend s.core).falsified h
by-told infeasible s h = record { count = refl; propagations = refl }
by-told solved s h = record { count = refl; propagations = refl }

pub step-told : (s : Search) → s.conflicts ≤ s.budget → Told (step s)
unfolding step
step-told s h = by-told s.status s h

-- ---- one turn
one-step : (v : Verdict) (o : Outcome) → o.verdict ≡ v → Told o → advanced v o (advance 0) ≡ last_step o
unfolding advanced advance with_blocks last_step
one-step go_on o e c = rw (append-nil, c.count, c.propagations, e)
one-step no_solution o e c = refl
one-step out_of_budget o e c = refl
one-step (solution x) o e c = refl

pub advance-one : (s : Search) → s.conflicts ≤ s.budget → advance 1 s ≡ last_step (step s)
unfolding advance
advance-one s h = one-step (step s).verdict (step s) refl (step-told s h)

-- ---- a run
pub record Same (t : Trace) (o : Outcome) : Type 0 where
  pub verdict : t.verdict ≡ o.verdict
  pub count : t.count ≡ o.count
  pub propagations : t.propagations ≡ o.propagations
  pub state : t.state ≡ o.state

continue-same : (v : Verdict) (o : Outcome) (go : Search → Outcome) (to : Search → Trace) → ¬ ((continue v o go).verdict ≡ go_on) → o.verdict ≡ v →
    (v ≡ go_on → ¬ ((go o.state).verdict ≡ go_on) → Same (to o.state) (go o.state)) → Same (advanced v o to) (continue v o go)
unfolding continue advanced with_blocks last_step
continue-same go_on o go to n e next = let r = next refl n in record { verdict = r.verdict; count = r.count; propagations = r.propagations; state = r.state }
continue-same no_solution o go to n e next = record { verdict = refl; count = refl; propagations = refl; state = refl }
continue-same out_of_budget o go to n e next = record { verdict = refl; count = refl; propagations = refl; state = refl }
continue-same (solution x) o go to n e next = record { verdict = refl; count = refl; propagations = refl; state = refl }

last-same : (v : Verdict) (o : Outcome) (to : Search → Trace) → o.verdict ≡ v → ¬ (o.verdict ≡ go_on) → Same (advanced v o to) o
unfolding advanced last_step
last-same go_on o to e n = absurd (n e)
last-same no_solution o to e n = record { verdict = refl; count = refl; propagations = refl; state = refl }
last-same out_of_budget o to e n = record { verdict = refl; count = refl; propagations = refl; state = refl }
last-same (solution x) o to e n = record { verdict = refl; count = refl; propagations = refl; state = refl }

run-for-same : (fuel : ℕ) (s : Search) → ¬ ((run_for fuel s).verdict ≡ go_on) → Same (advance (suc fuel) s) (run_for fuel s)
unfolding run_for advance
run-for-same zero s n = last-same (step s).verdict (step s) (advance zero) refl n
run-for-same (suc fuel) s n =
    continue-same (step s).verdict (step s) (run_for fuel) (advance (suc fuel)) n refl (λ e m. run-for-same fuel (step s).state m)

pub run-same : (s : Search) → Valid s → Same (advance (suc (s.budget - s.conflicts)) s) (run s)
unfolding run without_block
run-same s v = let r = run-for-same (s.budget - s.conflicts) s (unfold run without_block in run_ends s v) in record { verdict = r.verdict; count = r.count; propagations = r.propagations; state = r.state }

-- ---- the conflicts that turns repeated count
advanced-counted : (v : Verdict) (s : Search) (o : Outcome) (go : Search → Trace) → Counted s (block_in o.block) o.state → Counted o.state (go o.state).blocks (go o.state).state →
    Counted s (advanced v o go).blocks (advanced v o go).state
unfolding advanced with_blocks last_step
advanced-counted go_on s o go c t =
    record { conflicts = omega (arith, c.conflicts, t.conflicts, length-append (block_in o.block) (go o.state).blocks); budget = t.budget ∙ c.budget }
advanced-counted no_solution s o go c t = c
advanced-counted out_of_budget s o go c t = c
advanced-counted (solution x) s o go c t = c

pub advance-counted : (limit : ℕ) (s : Search) → Valid s → Counted s (advance limit s).blocks (advance limit s).state
unfolding advance
advance-counted zero s v = record { conflicts = omega arith; budget = refl }
advance-counted (suc limit) s v =
    advanced-counted (step s).verdict s (step s) (advance limit) (step-counted s v) (advance-counted limit (step s).state (step-valid s v))
