-- One turn of the model, by where its moves end.
use Prim.Native.Nat.{ℕ, suc, ◌<◌}
use native.Mathlib.Omega.{arith}
use mathlib.Core.List.{[], ◌∷◌}
use mathlib.Core.Option.{none, some}
use mathlib.Core.Path.{◌≡◌, refl, ap, ◌∙◌}
use Rattle.model_walk.specs.Search.{Core, Status, undecided, Search}
use Rattle.model_walk.specs.Move.{Stop, descend}
use Rattle.model_walk.specs.Conflict.{Conflict, at_conflict}
use Rattle.model_files.specs.Journal.{record_bytes}
use Rattle.model_walk.specs.Step.{Verdict, go_on, no_solution, out_of_budget, solution, Outcome, block_in, solved_by, budget_spent, record_of, verdict_at, counted, on_conflict, ended_at, ended, again, step_by, step}
use Rattle.model_walk.specs.Trace.{Trace, with_blocks, last_step, advanced, advance}
use Rattle.validity.proofs.Steps.{spent-or-counted}

-- a turn of a walk that is not marked is where its moves end
step-ends : (t : Search) (e : Stop) → t.status ≡ undecided → descend t.core ≡ e → step t ≡ ended_at t e.core e.falsified
unfolding step
step-ends t e m d = ap (λ (x : Status). step_by x t) m ∙ (unfold step_by ended in ap (λ (x : Stop). ended_at t x.core x.falsified) d)

step-finishes : (t : Search) (c : Core) → t.status ≡ undecided → descend t.core ≡ record { core = c; falsified = none } → step t ≡ solved_by t c
step-finishes t c m d = step-ends t (record { core = c; falsified = none }) m d ∙ (unfold ended_at in refl)

step-conflicts : (t : Search) (c : Core) (j : ℕ) → t.status ≡ undecided → descend t.core ≡ record { core = c; falsified = some j } → step t ≡ on_conflict t c j
step-conflicts t c j m d = step-ends t (record { core = c; falsified = some j }) m d ∙ (unfold ended_at in refl)

conflict-spent : (t : Search) (c : Core) (j : ℕ) → t.conflicts ≡ t.budget → on_conflict t c j ≡ budget_spent t
conflict-spent t c j e = spent-or-counted (λ o. o ≡ budget_spent t) t c j (omega arith) (λ q. refl) (λ l. let z : ⊥ = omega arith in absurd z)

conflict-counted : (t : Search) (c : Core) (j : ℕ) → t.conflicts < t.budget → on_conflict t c j ≡ counted t (at_conflict c j)
conflict-counted t c j e = spent-or-counted (λ o. o ≡ counted t (at_conflict c j)) t c j (omega arith) (λ q. let z : ⊥ = omega arith in absurd z) (λ l. refl)

-- ---- the same, of turns repeated
advance-step : (l : ℕ) (t : Search) (o : Outcome) → step t ≡ o → advance (suc l) t ≡ advanced o.verdict o (advance l)
unfolding advance
advance-step l t o e = ap (λ (x : Outcome). advanced x.verdict x (advance l)) e

pub advance-finishes : (l : ℕ) (t : Search) (c : Core) → t.status ≡ undecided → descend t.core ≡ record { core = c; falsified = none } → advance (suc l) t ≡ last_step (solved_by t c)
advance-finishes l t c m d = advance-step l t (solved_by t c) (step-finishes t c m d) ∙ (unfold solved_by advanced in refl)

module _ (l : ℕ) (t : Search) (c : Core) (j : ℕ) (m : t.status ≡ undecided) (d : descend t.core ≡ record { core = c; falsified = some j }) where
  pub advance-spent : t.conflicts ≡ t.budget → advance (suc l) t ≡ last_step (budget_spent t)
  advance-spent e = advance-step l t (budget_spent t) (step-conflicts t c j m d ∙ conflict-spent t c j e) ∙ (unfold budget_spent advanced in refl)

  counts : t.conflicts < t.budget → advance (suc l) t ≡ advanced (counted t (at_conflict c j)).verdict (counted t (at_conflict c j)) (advance l)
  counts e = advance-step l t (counted t (at_conflict c j)) (step-conflicts t c j m d ∙ conflict-counted t c j e)

  by_level : (x : Conflict) (k : ℕ) → x.back ≡ k → (counted t x).verdict ≡ verdict_at k
  unfolding counted
  by_level x k e = ap verdict_at e

  pub advance-none : t.conflicts < t.budget → (at_conflict c j).back ≡ 0 → advance (suc l) t ≡ last_step (counted t (at_conflict c j))
  advance-none e b =
      counts e ∙ ap (λ (v : Verdict). advanced v (counted t (at_conflict c j)) (advance l)) (by_level (at_conflict c j) 0 b) ∙ (unfold verdict_at advanced in refl)

  pub advance-on : (k : ℕ) → t.conflicts < t.budget → (at_conflict c j).back ≡ suc k →
      advance (suc l) t ≡ with_blocks (record_bytes (record_of (suc t.conflicts) (at_conflict c j)) ∷ []) (advance l (counted t (at_conflict c j)).state)
  advance-on k e b =
      counts e ∙ ap (λ (v : Verdict). advanced v (counted t (at_conflict c j)) (advance l)) (by_level (at_conflict c j) (suc k) b) ∙
      (unfold verdict_at advanced counted block_in in refl)

-- ---- a marked walk
advanced-last : (v : Verdict) (o : Outcome) (go : Search → Trace) → ¬ (v ≡ go_on) → advanced v o go ≡ last_step o
unfolding advanced
advanced-last go_on o go n = absurd (n refl)
advanced-last no_solution o go n = refl
advanced-last out_of_budget o go n = refl
advanced-last (solution x) o go n = refl

pub advance-again : (l : ℕ) (t : Search) (s : Status) (v : Verdict) → t.status ≡ s → step_by s t ≡ again t v → ¬ (v ≡ go_on) → advance (suc l) t ≡ last_step (again t v)
unfolding again last_step
advance-again l t s v m e n = advance-step l t (again t v) (unfold step in ap (λ (x : Status). step_by x t) m ∙ e) ∙ advanced-last v (again t v) (advance l) n
