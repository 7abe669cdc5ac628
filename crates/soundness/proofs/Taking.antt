-- The calls that take turns, on a state of a list of calls: each takes turns of a list, and tells of the last.
use Prim.Native.Nat.{ℕ, zero, suc, ◌-◌, ◌≤◌, ◌<◌}
use native.Mathlib.Omega.{arith}
use mathlib.Core.List.{[], ◌∷◌}
use mathlib.Core.Path.{◌≡◌, refl, sym, ap, subst, ◌∙◌}
use Rattle.model_problems.specs.Ranges.{max_variables}
use Rattle.model_problems.specs.Problem.{Problem, variables}
use Rattle.model_walk.specs.Search.{Search}
use Rattle.model_problems.specs.Points.{Point, points}
use Rattle.model_walk.specs.Step.{Verdict, go_on, no_solution, out_of_budget, solution, Outcome, block_in, lowers, again, step, without_block, run}
use Rattle.model_walk.specs.Trace.{Trace, last_step, advance}
use Rattle.model_claims.specs.Demand.{MeetsCuts}
use Rattle.model_claims.specs.Enumeration.{Call, one_turn, all_turns, strike, turns, verdict, Answer, traced, taken, NoRun, turns_of, Turns}
use Rattle.validity.specs.Valid.{Valid}
use Rattle.validity.proofs.Conflicts.{MeetsInequalities}
use Rattle.validity.proofs.Repeating.{run-same}
use Rattle.soundness.proofs.OneStep.{Open, Solved, Over, Says, step-says}
use Rattle.soundness.proofs.StepLists.{after_turns, turn_blocks, solved-again, over-again, Reached, still, found, over, list-cuts}
use Rattle.soundness.proofs.Together.{turns_together, together, one-together}

module _ (p : Problem) (few : variables p ≤ max_variables) (Left : Point → Type 0) (struck : ℕ) where
  -- t + 1 turns one after the other; a run gives none of their blocks
  pub record Takes (c : Call) (s : Search) (a : Answer) : Type 0 where
    pub t : ℕ
    pub many : turns_of c s ≡ suc t
    pub reply : a.reply ≡ verdict (step (after_turns t s)).verdict
    pub count : a.count ≡ (step (after_turns t s)).count
    pub propagations : a.propagations ≡ (step (after_turns t s)).propagations
    pub state : a.state ≡ after_turns (suc t) s
    pub blocks : NoRun (c ∷ []) → a.blocks ≡ turn_blocks (suc t) s
    pub cuts : (x : Point) → MeetsInequalities x p.constraints → MeetsCuts (variables p) x a.blocks

  takes-together : (c : Call) (s : Search) (t : ℕ) (r : Trace) → turns_of c s ≡ suc t → Reached p Left struck s → r ≡ turns_together t s → Takes c s (traced r)
  unfolding traced turns_together
  takes-together c s t r n d e =
      record {
        t = t;
        many = n;
        reply = ap (λ (x : Trace). verdict x.verdict) e;
        count = ap (λ (x : Trace). x.count) e;
        propagations = ap (λ (x : Trace). x.propagations) e;
        state = ap (λ (x : Trace). x.state) e;
        blocks = λ n. ap (λ (x : Trace). x.blocks) e;
        cuts = λ x m. subst (λ (y : Trace). MeetsCuts (variables p) x y.blocks) (sym e) (list-cuts p Left struck (suc t) s few d x m);
      }

  takes_run : (s : Search) → Valid s → Reached p Left struck s → Takes all_turns s (traced (last_step (run s)))
  unfolding traced last_step turns_together turns_of
  takes_run s v d =
      let f = s.budget - s.conflicts in
      let e = together p Left struck f s v d in
      let q = run-same s v in
      record {
        t = f;
        many = refl;
        reply = ap verdict (sym q.verdict ∙ ap (λ (x : Trace). x.verdict) e);
        count = sym q.count ∙ ap (λ (x : Trace). x.count) e;
        propagations = sym q.propagations ∙ ap (λ (x : Trace). x.propagations) e;
        state = sym q.state ∙ ap (λ (x : Trace). x.state) e;
        blocks = λ n. absurd n;
        cuts = λ x m. unfold run without_block block_in in tt;
      }

  pub takes : (c : Call) (s : Search) → Turns c → Valid s → Reached p Left struck s → Takes c s (taken c s)
  unfolding taken turns_of
  takes one_turn s h v d = takes-together one_turn s 0 (last_step (step s)) refl d (one-together s)
  takes all_turns s h v d = takes_run s v d
  takes strike s h v d = absurd h
  takes (turns zero) s h v d = absurd (omega arith)
  takes (turns (suc t)) s h v d = takes-together (turns (suc t)) s t (advance (suc t) s) refl d (together p Left struck t s v d)

  -- ---- the last turn, on state s: its verdict tells what state y it leaves
  abbrev pub Leaves : Verdict → Search → Search → Type 0
  Leaves go_on s y = Open p Left struck y × (y.conflicts ≡ suc s.conflicts)
  Leaves no_solution s y = Over p Left struck y
  Leaves out_of_budget s y = Open p Left struck y × (p.budget < points p)
  Leaves (solution x) s y = Solved p Left struck y × (x ≡ lowers y.core.deepest.box)

  says-leaves : (s : Search) (v : Verdict) → Open p Left struck s → Says p Left struck s (step s) v → Leaves v s (step s).state
  says-leaves s go_on o h = h
  says-leaves s no_solution o h = h
  says-leaves s out_of_budget o h = (subst (Open p Left struck) (sym h.0) o, h.1)
  says-leaves s (solution x) o h = h

  again-leaves : (s : Search) (v : Verdict) → Leaves v s s → step s ≡ again s v → Leaves (step s).verdict s (step s).state
  unfolding again
  again-leaves s v l e = subst (λ (o : Outcome). Leaves o.verdict s o.state) (sym e) l

  pub turn-leaves : (s : Search) → Reached p Left struck s → Leaves (step s).verdict s (step s).state
  turn-leaves s (still o) = says-leaves s (step s).verdict o (step-says p Left struck s o).says
  turn-leaves s (found d) = again-leaves s (solution (lowers s.core.deepest.box)) (d, refl) (solved-again p Left struck s d)
  turn-leaves s (over d) = again-leaves s no_solution d (over-again p Left struck s d)
