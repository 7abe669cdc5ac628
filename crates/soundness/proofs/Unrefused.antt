-- Lists of turns, each a call of its own: where none is refused they are turns one after the other, and a run from any state of the list gives its first verdict.
use Prim.Native.Nat.{ℕ, zero, suc, ◌+◌, ◌-◌, ◌≤◌, ◌<◌}
use native.Mathlib.Omega.{arith}
use mathlib.Core.Bool.{Bool, true, false}
use mathlib.Core.List.{List, ◌++◌, append_assoc}
use mathlib.Core.Path.{◌≡◌, refl, sym, ap, ◌∙◌}
use lib.Dec.{T}
use Rattle.model_problems.specs.Problem.{Problem, ok}
use Rattle.model_walk.specs.Search.{Search}
use Rattle.model_walk.specs.Validity.{admitted}
use Rattle.model_problems.specs.Points.{Point}
use Rattle.model_walk.specs.Step.{go_on, Outcome, step, checked, step_call, run}
use Rattle.model_walk.specs.Trace.{Trace, advance}
use Rattle.model_claims.specs.Demand.{after, state_after, blocks_in, journal, steps_together}
use Rattle.lists.proofs.Bools.{true_of}
use Rattle.validity.specs.Valid.{Valid}
use Rattle.validity.proofs.Elements.{every_append}
use Rattle.validity.proofs.Steps.{step-valid, run_ends}
use Rattle.validity.proofs.Repeating.{run-same}
use Rattle.soundness.proofs.StepLists.{after_turns, turn_blocks, state-next, valid-after, Reached, stepped, reached-after, repeats-reached, SaysSame}
use Rattle.soundness.proofs.Together.{IsBlock, Long, step-long, turns_together, together}

-- ---- lists one after the other
pub state-add : (k t : ℕ) (s : Search) → state_after (k + t) s ≡ state_after t (state_after k s)
unfolding state_after
state-add zero t s = let z : zero + t ≡ t = omega arith in rw z
state-add (suc k) t s = let z : suc k + t ≡ suc (k + t) = omega arith in rw z (state-add k t (after s (step_call s)))

pub journal-add : (k t : ℕ) (s : Search) → journal (k + t) s ≡ journal k s ++ journal t (state_after k s)
unfolding state_after journal
journal-add zero t s = let z : zero + t ≡ t = omega arith in rw z
journal-add (suc k) t s = let z : suc k + t ≡ suc (k + t) = omega arith in rw (z, append_assoc) (ap (λ (bs : List (List ℕ)). blocks_in (step_call s) ++ bs) (journal-add k t (after s (step_call s))))

-- ---- each block has its length
call_long : (t : Bool) (s : Search) → Long (blocks_in (checked t (step s)))
unfolding checked blocks_in
call_long true s = step-long s
call_long false s = tt

pub journal-long : (k : ℕ) (s : Search) → Long (journal k s)
unfolding journal step_call
journal-long zero s = tt
journal-long (suc k) s = every_append IsBlock (blocks_in (step_call s)) (journal k (after s (step_call s))) (call_long (admitted s) s) (journal-long k (after s (step_call s)))

-- ---- an admitted state is not refused
pub call-taken : (s : Search) → T (admitted s) → step_call s ≡ ok (step s)
unfolding step_call checked
call-taken s h = rw (true_of (admitted s) h)

module _ (p : Problem) (Left : Point → Type 0) (struck : ℕ) (fine : (s : Search) → Valid s → Reached p Left struck s → T (admitted s)) where
  pub state-taken : (k : ℕ) (s : Search) → Valid s → Reached p Left struck s → state_after k s ≡ after_turns k s
  unfolding state_after after_turns after
  state-taken zero s v r = refl
  state-taken (suc k) s v r = rw (call-taken s (fine s v r)) (state-taken k (step s).state (step-valid s v) (stepped p Left struck s r).next)

  pub journal-taken : (k : ℕ) (s : Search) → Valid s → Reached p Left struck s → journal k s ≡ turn_blocks k s
  unfolding journal turn_blocks after blocks_in
  journal-taken zero s v r = refl
  journal-taken (suc k) s v r = rw (call-taken s (fine s v r), journal-taken k (step s).state (step-valid s v) (stepped p Left struck s r).next)

  steps-together : (t : ℕ) (s : Search) → Valid s → Reached p Left struck s → advance (suc t) s ≡ steps_together t s
  unfolding steps_together turns_together
  steps-together t s v r = rw (state-taken t s v r, state-taken (suc t) s v r, journal-taken (suc t) s v r) (together p Left struck t s v r)

  -- ---- a list whose first verdict comes with turn `last`
  module _ (s : Search) (v : Valid s) (r : Reached p Left struck s) (last : ℕ) (before : (k : ℕ) → k < last → (step (state_after k s)).verdict ≡ go_on) (reached : ¬ ((step (state_after last s)).verdict ≡ go_on))
      (later : (k : ℕ) → last ≤ k → SaysSame (step (state_after k s)) (step (state_after last s))) where
    abbrev Here : Search → Type 0
    Here x = Valid x × Reached p Left struck x

    here : (k : ℕ) → Here (state_after k s)
    here k = rw (state-taken k s v r) (valid-after k s v, reached-after p Left struck k s r)

    next : (k : ℕ) → state_after (suc k) s ≡ (step (state_after k s)).state
    next k = rw (state-taken (suc k) s v r, state-taken k s v r) (state-next k s)

    -- the state after the verdict stays
    stays-for : (j : ℕ) → state_after (j + suc last) s ≡ state_after (suc last) s
    stays-for zero = let z : zero + suc last ≡ suc last = omega arith in rw z
    stays-for (suc j) =
        let z : suc j + suc last ≡ suc (j + suc last) = omega arith in
        let q = repeats-reached p Left struck (state_after last s) (here last).1 reached in
        rw z (next (j + suc last) ∙ ap (λ (x : Search). (step x).state) (stays-for j ∙ next last) ∙ q.state ∙ sym (next last))

    pub stays : (k : ℕ) → last < k → state_after k s ≡ state_after (suc last) s
    stays k h = let z : k ≡ (k - suc last) + suc last = omega arith in ap (λ (i : ℕ). state_after i s) z ∙ stays-for (k - suc last)

    pub together-after : (k t : ℕ) → advance (suc t) (state_after k s) ≡ steps_together t (state_after k s)
    together-after k t = steps-together t (state_after k s) (here k).0 (here k).1

    pub ran-after : (k : ℕ) →
        ((run (state_after k s)).verdict ≡ (step (state_after last s)).verdict) × ((run (state_after k s)).count ≡ (step (state_after last s)).count) ×
        ((run (state_after k s)).propagations ≡ (step (state_after last s)).propagations) × ((run (state_after k s)).state ≡ state_after (suc last) s)
    unfolding steps_together
    ran-after k =
        let x = state_after k s in
        let w = (here k).0 in
        let f = x.budget - x.conflicts in
        let q = run-same x w in
        let t = together-after k f in
        let e : step (state_after f x) ≡ step (state_after (k + f) s) = ap step (sym (state-add k f s)) in
        let verdict : (run x).verdict ≡ (step (state_after (k + f) s)).verdict = sym q.verdict ∙ ap (λ (y : Trace). y.verdict) t ∙ ap (λ (y : Outcome). y.verdict) e in
        let far : last ≤ k + f = not-less (k + f) last (λ h. run_ends x w (verdict ∙ before (k + f) h)) in
        let l = later (k + f) far in (
          verdict ∙ l.0,
          sym q.count ∙ ap (λ (y : Trace). y.count) t ∙ ap (λ (y : Outcome). y.count) e ∙ l.1,
          sym q.propagations ∙ ap (λ (y : Trace). y.propagations) t ∙ ap (λ (y : Outcome). y.propagations) e ∙ l.2,
          sym q.state ∙ ap (λ (y : Trace). y.state) t ∙ sym (state-add k (suc f) s) ∙ stays (k + suc f) (omega arith),
        )
      where
        not-less : (a b : ℕ) → ¬ (a < b) → b ≤ a
        not-less a b n = omega arith
