-- The arms of the loop that end it.
use Prim.Native.Nat.{ℕ, suc, ◌-◌, ◌≤◌, ◌<◌}
use native.Mathlib.Omega.{arith}
use mathlib.Core.Bool.{Bool}
use mathlib.Core.List.{List, append-nil}
use mathlib.Core.Option.{none, some}
use mathlib.Core.Path.{◌≡◌, refl, sym, ap, ◌∙◌}
use lib.IntN.{ℤ}
use lib.ListN.{length}
use Rattle.model_walk.specs.Search as model
use Rattle.model_walk.specs.Move.{conflict, finish, follow, descend, propagations_by}
use Rattle.model_walk.specs.Step.{Outcome, block_in, propagated, solved_by, budget_spent}
use Rattle.model_walk.specs.Trace.{with_blocks, last_step, advance}
use Rattle.validity.proofs.Steps.{impossible}
use Rattle.state.specs.declared.Level.{Level}
use Rattle.turns.specs.Advancing.{verdict_of, Buffered}
use Rattle.turns.specs.declared.Ending.{Ending}
use Rattle.turns.specs.declared.Ending.TheVariants.{GoOn, NoSolution, OutOfBudget, Solution}
use Rattle.turns.proofs.OneStep.{advance-finishes, advance-spent}
use Rattle.turns.proofs.Running.{Running, Propagates, step_start, core_here, ends-tally}

-- a state's parts at the end of the loop: the level in hand lies beside the others
abbrev pub state_at : List ℤ → List ℤ → List ℤ → ℕ → ℕ → ℕ → ℕ → ℕ → ℕ → model.Status → List ℤ → List ℕ → List Level → Level → ℕ → model.Search
state_at thresholds lines divisors n m budget conflicts made depth status rows numbers levels l tally =
    record { core = core_here thresholds lines divisors n m rows numbers levels made depth l; budget = budget; conflicts = conflicts; propagations = tally; status = status }

-- at most `limit` turns from s end so, with `done` blocks and the state t
pub record Reaches (s : model.Search) (limit : ℕ) (keep : Bool) (ending : Ending) (done : ℕ) (t : model.Search) (old now : List ℕ) : Type 0 where
  pub blocks : List (List ℕ)
  pub many : done ≡ length blocks
  pub trace : record { verdict = verdict_of ending t; count = t.conflicts; propagations = t.propagations; blocks = blocks; state = t } ≡ advance limit s
  pub buffer : Buffered keep blocks old now

module _ {s : model.Search} {old : List ℕ} {limit : ℕ} {keep : Bool} {thresholds lines divisors : List ℤ} {n m budget : ℕ} {now : List ℕ} {rows : List ℤ} {numbers : List ℕ} {levels : List Level} {made conflicts depth : ℕ}
    {level before : Level} {start done earlier tally : ℕ} (r : Running s old limit keep thresholds lines divisors n m budget now rows numbers levels made conflicts depth level before start done earlier tally) where
  -- one turn more is allowed
  more : done < limit → limit - done ≡ suc (limit - done - 1)
  more h = omega arith

  last-trace : (o : Outcome) → done < limit → advance (suc (limit - done - 1)) (step_start thresholds lines divisors n m budget conflicts rows numbers levels made before start earlier) ≡ last_step o →
      advance limit s ≡ with_blocks r.blocks (last_step o)
  last-trace o h e = r.ahead ∙ ap (with_blocks r.blocks) (rw (more h) e)

  pub finishes : (here : Level) (tally₁ : ℕ) → done < limit →
      Propagates (core_here thresholds lines divisors n m rows numbers levels made depth level) (core_here thresholds lines divisors n m rows numbers levels made depth here) finish tally tally₁ →
      Reaches s limit keep Solution done (state_at thresholds lines divisors n m budget conflicts made depth model.solved rows numbers levels here tally₁) old now
  unfolding verdict_of with_blocks last_step solved_by propagated block_in follow propagations_by
  finishes here tally₁ h p =
      let t = step_start thresholds lines divisors n m budget conflicts rows numbers levels made before start earlier in
      let c = core_here thresholds lines divisors n m rows numbers levels made depth here in
      let d : descend t.core ≡ record { core = c; falsified = none } = r.turn ∙ p.next in
      record {
        blocks = r.blocks;
        many = sym r.many;
        trace = sym (last-trace (solved_by t c) h (advance-finishes (limit - done - 1) t c refl d) ∙ rw (append-nil, ends-tally r.counted p refl));
        buffer = r.buffer;
      }

  -- out of budget: the turn that was begun is put back
  pub spends : (here : Level) (j tally₁ : ℕ) → done < limit → conflicts ≡ budget →
      Propagates (core_here thresholds lines divisors n m rows numbers levels made depth level) (core_here thresholds lines divisors n m rows numbers levels made depth here) (conflict j) tally tally₁ →
      Reaches s limit keep OutOfBudget done (state_at thresholds lines divisors n m budget conflicts made start model.undecided rows numbers levels before earlier) old now
  unfolding verdict_of with_blocks last_step budget_spent block_in follow
  spends here j tally₁ h e p =
      let t = step_start thresholds lines divisors n m budget conflicts rows numbers levels made before start earlier in
      let c = core_here thresholds lines divisors n m rows numbers levels made depth here in
      let d : descend t.core ≡ record { core = c; falsified = some j } = r.turn ∙ p.next in
      record {
        blocks = r.blocks;
        many = sym r.many;
        trace = sym (last-trace (budget_spent t) h (advance-spent (limit - done - 1) t c j refl d e) ∙ rw append-nil);
        buffer = r.buffer;
      }

  -- as many turns as were asked for: the turn that was begun is put back
  pub exits : limit ≤ done →
      Reaches s limit keep GoOn done (state_at thresholds lines divisors n m budget conflicts made start model.undecided rows numbers levels before earlier) old now
  unfolding verdict_of with_blocks advance
  exits h =
      let z : limit - done ≡ 0 = omega arith in
      let a = r.ahead in
      record {
        blocks = r.blocks;
        many = sym r.many;
        trace = sym (rw z at a ∙ rw append-nil);
        buffer = r.buffer;
      }

-- every other ending is final
abbrev pub Unsolved : Ending → Type 0
Unsolved GoOn = Unit {0}
Unsolved NoSolution = Unit {0}
Unsolved OutOfBudget = Unit {0}
Unsolved Solution = ⊥

pub unsolved : {A : Type 0} (e : Ending) → Unsolved e → e ≡ Solution → A
unsolved GoOn u f = impossible (cc)
unsolved NoSolution u f = impossible (cc)
unsolved OutOfBudget u f = impossible (cc)
unsolved Solution u f = absurd u
