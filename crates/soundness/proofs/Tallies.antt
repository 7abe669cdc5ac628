-- N5's count through turns: it grows by the bounds that lines set in those that were not taken back, and from an opening it stays within the limit.
use Prim.Native.Nat.{ℕ, zero, suc, ◌+◌, ◌*◌, ◌≤◌}
use native.Mathlib.Nat.{mul-le-mul, le_refl}
use native.Mathlib.Omega.{arith}
use mathlib.Core.Option.{Option, none, some}
use mathlib.Core.Path.{◌≡◌, refl, sym, subst}
use lib.Dec.{T, le→leb}
use Rattle.model_problems.specs.Problem.{Problem, variables, domain_in_range}
use Rattle.model_problems.specs.Ranges.{max_propagations, max_slack}
use Rattle.model_walk.specs.Search.{Core, Status, undecided, infeasible, solved, Search}
use Rattle.model_walk.specs.Move.{slack, descend, propagations_in}
use Rattle.model_walk.specs.Conflict.{at_conflict}
use Rattle.model_walk.specs.Validity.{valid, within_limit, admitted}
use Rattle.model_problems.specs.Points.{Point}
use Rattle.model_walk.specs.Step.{Outcome, propagated, solved_by, budget_spent, verdict_at, counted, ended_at, ended, again, step_by, step}
use Rattle.model_walk.specs.Propagations.{kept_by, bounds_set_by, bounds_set}
use Rattle.format.proofs.AcceptedShape as Small
use Rattle.integer.specs.Tests.{and_in}
use Rattle.validity.specs.Valid.{Valid}
use Rattle.validity.proofs.Slack.{slack-most}
use Rattle.validity.proofs.States.{sizes-fit}
use Rattle.validity.proofs.Steps.{step-valid, spent-or-counted}
use Rattle.soundness.proofs.Runs.{ProblemFits}
use Rattle.soundness.proofs.StepLists.{after_turns, Reached, reached-creeps}

-- ---- a turn
abbrev Sets : Search → Outcome → Type 0
Sets s o = o.state.propagations ≡ s.propagations + kept_by o.verdict (propagations_in s.core)

counted-sets : (d k : ℕ) → kept_by (verdict_at d) k ≡ k
unfolding kept_by verdict_at
counted-sets zero k = refl
counted-sets (suc d) k = refl

ended-sets : (s : Search) (c : Core) (e : Option ℕ) → s.conflicts ≤ s.budget → Sets s (ended_at s c e)
unfolding ended_at propagated
ended-sets s c none h = unfold solved_by kept_by in refl
ended-sets s c (some j) h =
    spent-or-counted (Sets s) s c j h (λ e. unfold budget_spent kept_by in omega arith)
    (λ l. unfold counted in omega (arith, counted-sets (at_conflict c j).back (propagations_in s.core)))

step-sets : (m : Status) (s : Search) → s.status ≡ m → s.conflicts ≤ s.budget → (step s).state.propagations ≡ s.propagations + bounds_set_by m s
unfolding step step_by ended again bounds_set_by
step-sets undecided s e h = subst (λ (m : Status). Sets s (step_by m s)) (sym e) (ended-sets s (descend s.core).core (descend s.core).falsified h)
step-sets infeasible s e h = rw e (omega arith)
step-sets solved s e h = rw e (omega arith)

-- ---- turns one after the other
pub turns-set : (k : ℕ) (s : Search) → Valid s → (after_turns k s).propagations ≡ s.propagations + bounds_set k s
unfolding after_turns bounds_set
turns-set zero s v = omega arith
turns-set (suc k) s v = omega (arith, step-sets s.status s refl (sizes-fit s v.tests).conflicts, turns-set k (step s).state (step-valid s v))

-- ---- the limit
-- with fewer than 2^62 / 2^30 dead ends and strikes together no domain has too much slack
pub few-set : (p : Problem) → Small.Sizes p → ProblemFits p → (k : ℕ) → suc k * max_slack ≤ max_propagations → suc k * slack p.domain ≤ max_propagations
unfolding variables domain_in_range
few-set p z f k h =
    let far : suc k * slack p.domain ≤ suc k * max_slack = mul-le-mul (le_refl (suc k)) (slack-most p.domain f.domain z.few-variables) in
    omega (arith, far)

pub set-admitted : (p : Problem) (Left : Point → Type 0) (struck : ℕ) (s : Search) → Valid s → Reached p Left struck s → suc (s.conflicts + struck) * slack p.domain ≤ max_propagations → T (admitted s)
unfolding admitted
set-admitted p Left struck s v r h =
    let within : s.propagations ≤ max_propagations = omega (arith, reached-creeps p Left struck s r) in
    and_in (valid s) (within_limit s) v.tests (unfold within_limit in le→leb s.propagations max_propagations within)
