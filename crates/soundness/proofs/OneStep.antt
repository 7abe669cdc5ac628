-- A turn of a search from an opening: what it answers, and what holds of the state after it.
use Prim.Native.Nat.{ℕ, zero, suc, ◌+◌, ◌*◌, ◌≤◌, ◌<◌}
use native.Mathlib.Omega.{arith}
use mathlib.Core.Logic.{◌↔◌}
use mathlib.Core.Option.{Option, none, some}
use mathlib.Core.Path.{◌≡◌, refl, sym, subst, ◌∙◌}
use lib.ListN.{length}
use Rattle.model_problems.specs.Ranges.{max_variables}
use Rattle.model_problems.specs.Constraint.{Constraint}
use Rattle.model_problems.specs.Problem.{Problem, variables}
use Rattle.model_walk.specs.Search.{Core, Status, undecided, infeasible, solved, Search, kept}
use Rattle.model_walk.specs.Move.{slack, descend}
use Rattle.model_walk.specs.Conflict.{at_conflict}
use Rattle.model_problems.specs.Points.{Point, points, Meets, FirstOf}
use Rattle.model_walk.specs.Step.{Verdict, go_on, no_solution, out_of_budget, solution, Outcome, block_in, lowers, propagated, solved_by, budget_spent, record_of, verdict_at, status_at, counted, ended_at, ended, step_by, step}
use Rattle.model_claims.specs.Demand.{MeetsCuts}
use Rattle.format.proofs.RecordCut.{cut-in-record}
use Rattle.validity.proofs.Moves.{Falsifies, Finishes}
use Rattle.validity.proofs.Constraints.{inequality-divisor}
use Rattle.validity.proofs.Conflicts.{MeetsInequalities}
use Rattle.validity.proofs.Descent.{EndsAt}
use Rattle.validity.proofs.Slack.{slack-nested}
use Rattle.validity.proofs.Steps.{moves-few, conflict-settled, spent-or-counted}
use Rattle.soundness.proofs.Remaining.{chain-ordered, chain-domain}
use Rattle.soundness.proofs.Opened.{Sound, descend-sound, finish-first, cut-implied, After, conflict-after}

-- turns that ended at no dead end since the last strike
abbrev pub ending : Status → ℕ
ending undecided = 0
ending infeasible = 0
ending solved = 1

-- a search from an opening of p with this mark, so many solutions struck out and those left. Each turn set at most as many bounds as the domain's slack, and
-- ended at a dead end, or at a solution that was struck out or stands
pub record Marked (mark : Status) (p : Problem) (Left : Point → Type 0) (struck : ℕ) (s : Search) : Type 0 where
  pub room : ℕ
  pub sound : Sound p Left room s.core
  pub total : s.conflicts + struck + room ≤ points p
  pub budget : s.budget ≡ p.budget
  pub afford : s.conflicts ≤ s.budget
  pub creeps : s.propagations ≤ (ending mark + s.conflicts + struck) * slack p.domain
  pub status : s.status ≡ mark

-- one that has no verdict yet
abbrev pub Open : Problem → (Point → Type 0) → ℕ → Search → Type 0
Open p Left struck s = Marked undecided p Left struck s

-- one that is marked as solved, at the first solution left
pub record Solved (p : Problem) (Left : Point → Type 0) (struck : ℕ) (s : Search) : Type 0 where
  pub at : Marked solved p Left struck s
  pub finishes : Finishes (kept s.core) s.core.deepest.box

-- one that is marked 'none': no solution is left
pub record Over (p : Problem) (Left : Point → Type 0) (struck : ℕ) (s : Search) : Type 0 where
  pub none_left : (x : Point) → Left x → ⊥
  pub total : s.conflicts + struck ≤ points p
  pub creeps : s.propagations ≤ (s.conflicts + struck) * slack p.domain
  pub status : s.status ≡ infeasible
  pub variables : s.core.variables ≡ variables p

-- what each verdict says
abbrev pub Says : (p : Problem) (Left : Point → Type 0) (struck : ℕ) → Search → Outcome → Verdict → Type 0
Says p Left struck s o go_on = Open p Left struck o.state × (o.state.conflicts ≡ suc s.conflicts)
Says p Left struck s o no_solution = Over p Left struck o.state
Says p Left struck s o out_of_budget = (o.state ≡ s) × (p.budget < points p)
Says p Left struck s o (solution x) = Solved p Left struck o.state × (x ≡ lowers o.state.core.deepest.box)

pub record StepSays (p : Problem) (Left : Point → Type 0) (struck : ℕ) (s : Search) (o : Outcome) : Type 0 where
  pub blocks : length (block_in o.block) + s.conflicts ≡ o.state.conflicts
  pub cuts : variables p ≤ max_variables → (x : Point) → MeetsInequalities x p.constraints → MeetsCuts (variables p) x (block_in o.block)
  pub says : Says p Left struck s o o.verdict

module _ (p : Problem) (Left : Point → Type 0) (struck : ℕ) where
  -- N5's count after one turn more
  abbrev Creeps : Search → ℕ → Type 0
  Creeps s n = n ≤ suc (s.conflicts + struck) * slack p.domain

  -- the solution shown is the first that is left
  pub shown-first : (s : Search) (x : Point) → Solved p Left struck s × (x ≡ lowers s.core.deepest.box) → FirstOf Left x
  shown-first s x h = subst (FirstOf Left) (sym h.1) (finish-first p Left h.0.at.room s.core h.0.at.sound h.0.finishes)

  solved-says : (s : Search) (c : Core) (room : ℕ) → Sound p Left room c → s.conflicts + struck + room ≤ points p → s.budget ≡ p.budget → s.conflicts ≤ s.budget →
      Creeps s (propagated s) → Finishes (kept c) c.deepest.box → StepSays p Left struck s (solved_by s c)
  unfolding solved_by block_in
  solved-says s c room d t b h w f =
      record {
        blocks = omega arith;
        cuts = λ h x z. tt;
        says = (record { at = record { room = room; sound = d; total = t; budget = b; afford = h; creeps = omega (arith, w); status = refl }; finishes = f }, refl);
      }

  -- a counted conflict, by its backjump level
  after-says : (d : ℕ) (s : Search) (o : Outcome) (room : ℕ) → After p Left room d o.state.core → o.state.conflicts ≡ suc s.conflicts → o.state.budget ≡ s.budget → o.state.status ≡ status_at d →
      Creeps s o.state.propagations → s.conflicts + struck + room ≤ points p → s.budget ≡ p.budget → s.conflicts < s.budget → Says p Left struck s o (verdict_at d)
  unfolding verdict_at status_at
  after-says zero s o room a c b m w t e h = record { none_left = a.0; total = omega (arith, a.1); creeps = rw c (omega (arith, w)); status = m; variables = a.2 }
  after-says (suc d) s o room a c b m w t e h =
      (record { room = a.left; sound = a.sound; total = omega (arith, a.less); budget = b ∙ e; afford = omega arith; creeps = rw c (omega (arith, w)); status = m }, c)

  after-room : (d room : ℕ) (c : Core) → After p Left room d c → 1 ≤ room
  after-room zero room c a = a.1
  after-room (suc d) room c a = omega (arith, a.less)

  counted-says : (s : Search) (c : Core) (j room : ℕ) → Sound p Left room c → s.conflicts + struck + room ≤ points p → s.budget ≡ p.budget → s.conflicts < s.budget →
      Creeps s (propagated s) → Falsifies (kept c) c.deepest.box j → StepSays p Left struck s (counted s (at_conflict c j))
  unfolding counted block_in
  counted-says s c j room d t b h w f =
      let x = at_conflict c j in
      let z = conflict-settled c j d.fits f in
      let a = conflict-after p Left room c j d f z in
      let r = record_of (suc s.conflicts) x in
      record {
        blocks = omega arith;
        cuts = λ m y q. (
          subst (λ (k : Constraint). Meets y k)
              (sym (cut-in-record (variables p) r m (unfold record_of in z.cut.size ∙ d.variables) (unfold record_of in z.cut.range) (unfold record_of in inequality-divisor x.cut z.inequality)))
              (unfold record_of in cut-implied p Left room c j d f y q),
          tt,
        );
        says = after-says x.back s (counted s x) room a refl refl refl w t b h;
      }

  -- out of budget: as many conflicts as the budget are counted, and there is room for one more
  spent-says : (s : Search) (c : Core) (j room : ℕ) → Sound p Left room c → s.conflicts + struck + room ≤ points p → s.budget ≡ p.budget → s.conflicts ≡ s.budget →
      Falsifies (kept c) c.deepest.box j → StepSays p Left struck s (budget_spent s)
  unfolding budget_spent block_in
  spent-says s c j room d t b h f =
      let m = after-room (at_conflict c j).back room (at_conflict c j).core (conflict-after p Left room c j d f (conflict-settled c j d.fits f)) in
      record { blocks = omega arith; cuts = λ h x z. tt; says = (refl, omega arith) }

  ended-says : (s : Search) (c : Core) (e : Option ℕ) (room : ℕ) → Sound p Left room c → EndsAt c e → s.conflicts + struck + room ≤ points p → s.budget ≡ p.budget → s.conflicts ≤ s.budget →
      Creeps s (propagated s) → StepSays p Left struck s (ended_at s c e)
  unfolding ended_at
  ended-says s c none room d f t b h w = solved-says s c room d t b h w f
  ended-says s c (some j) room d f t b h w =
      spent-or-counted (StepSays p Left struck s) s c j h (λ e. spent-says s c j room d t b e f) (λ l. counted-says s c j room d t b l w f)

  -- the deepest level lies in the domain
  creeps-more : (s : Search) → Open p Left struck s → Creeps s (propagated s)
  unfolding propagated
  creeps-more s o =
      let c = s.core in
      let chain = o.sound.chain in
      omega (arith, o.creeps, moves-few c o.sound.fits, slack-nested c.deepest.box p.domain (chain-ordered p c.deepest c.outer chain) (chain-domain p c.deepest c.outer chain))

  -- a turn
  pub step-says : (s : Search) → Open p Left struck s → StepSays p Left struck s (step s)
  unfolding step ended
  step-says s o =
      let d = descend-sound p Left o.room s.core o.sound in
      subst (λ (m : Status). StepSays p Left struck s (step_by m s)) (sym o.status)
      (unfold step_by ended in ended-says s (descend s.core).core (descend s.core).falsified o.room d.holds d.ends o.total o.budget o.afford (creeps-more s o))

-- the same solutions left, said in another way
pub open-same : (p : Problem) (Left Same : Point → Type 0) (struck : ℕ) (s : Search) → ((x : Point) → Left x ↔ Same x) → Open p Left struck s → Open p Same struck s
open-same p Left Same struck s f o =
    let d = o.sound in
    record {
      room = o.room;
      sound = record {
        fits = d.fits;
        variables = d.variables;
        thresholds = d.thresholds;
        inputs = d.inputs;
        implied = d.implied;
        chain = d.chain;
        solves = λ x z. d.solves x ((f x).1 z);
        cover = λ x z. d.cover x ((f x).1 z);
        exact = λ x z r. (f x).0 (d.exact x z r);
        left = d.left;
      };
      total = o.total;
      budget = o.budget;
      afford = o.afford;
      creeps = o.creeps;
      status = o.status;
    }
