-- Turns repeated from any valid state: a marked one gives its verdict again.
use Prim.Native.Nat.{ℕ, zero, suc, ◌-◌, ◌*◌}
use native.Mathlib.Omega.{arith}
use mathlib.Core.Bool.{Bool}
use mathlib.Core.List.{List, []}
use mathlib.Core.Path.{◌≡◌, refl, sym, ap, subst, ◌∙◌}
use lib.IntN.{ℤ}
use lib.ListN.{length}
use Rattle.model_walk.specs.Search as model
use Rattle.model_walk.specs.Step.{Verdict, go_on, no_solution, out_of_budget, solution, Outcome, block_in, lowers, again, step_by, step}
use Rattle.model_walk.specs.Trace.{Trace, with_blocks, last_step, advanced, advance, joined}
use Rattle.model_walk.specs.Exclude.{Exclusion, struck, ended, unsolved, exclude_within}
use Rattle.model_walk.specs.Listing.{Listing, ends_with, list_after, goes_on, room_at}
use Rattle.validity.specs.Valid.{Valid}
use Rattle.validity.proofs.Steps.{step-valid, impossible}
use Rattle.validity.proofs.Excluding.{within-valid}
use Rattle.state.specs.View.{status_of, view}
use Rattle.state.specs.declared.Search.{Search}
use Rattle.state.specs.declared.Status.{Status}
use Rattle.state.specs.declared.Status.TheVariants.{Undecided, Infeasible, Solved}
use Rattle.propagate.proofs.States.{SizesFit, sizes}
use Rattle.turns.specs.Advancing.{verdict_of, trace_of, advance_over, Advances}
use Rattle.turns.specs.declared.Ending.{Ending}
use Rattle.turns.specs.declared.Ending.TheVariants.{GoOn, NoSolution, Solution}
use Rattle.turns.specs.declared.Advanced.{Advanced}
use Rattle.turns.proofs.Starting.{none_written}
use Rattle.turns.proofs.OneStep.{advance-again}

-- ---- validity is kept
advanced-valid : (v : Verdict) (o : Outcome) (go : model.Search → Trace) → Valid o.state → ((t : model.Search) → Valid t → Valid (go t).state) → Valid (advanced v o go).state
unfolding advanced with_blocks last_step
advanced-valid go_on o go h next = next o.state h
advanced-valid no_solution o go h next = h
advanced-valid out_of_budget o go h next = h
advanced-valid (solution x) o go h next = h

pub advance-valid : (limit : ℕ) (s : model.Search) → Valid s → Valid (advance limit s).state
unfolding advance
advance-valid zero s v = v
advance-valid (suc limit) s v = advanced-valid (step s).verdict (step s) (advance limit) (step-valid s v) (advance-valid limit)

-- with strikes among the turns
goes-valid : (v : Verdict) (x : Exclusion) (t : Trace) (l : Listing Trace) → Valid t.state → Valid l.last.state → Valid (goes_on v x t l).last.state
unfolding goes_on ends_with list_after
goes-valid (solution w) struck t l h n = n
goes-valid (solution w) ended t l h n = h
goes-valid (solution w) unsolved t l h n = h
goes-valid go_on x t l h n = h
goes-valid no_solution x t l h n = h
goes-valid out_of_budget x t l h n = h

over-valid : (room limit : ℕ) (s : model.Search) → Valid s → Valid (advance_over room limit s).last.state
unfolding advance_over ends_with
over-valid zero limit s v = advance-valid limit s v
over-valid (suc room) limit s v =
    let t = advance limit s in
    let w = advance-valid limit s v in
    goes-valid t.verdict (exclude_within t.state).answer t _ w (over-valid room (limit - length t.blocks) (exclude_within t.state).state (within-valid t.state w))

-- ---- the sizes of the state after them
pub after-sizes : {s : model.Search} {limit : ℕ} {keep : Bool} {room : ℕ} {a : Advanced} {old now : List ℕ} {list list₁ : List ℤ} → Valid s → Advances s limit keep room a old now list list₁ → SizesFit a.state
unfolding trace_of
after-sizes {s} {limit} {keep} {room} {a} v h = sizes a.state (subst Valid (sym (ap (λ (l : Listing Trace). l.last.state) h.trace)) (over-valid room limit s v))

-- ---- room for strikes: a state that is not marked has all of it
pub room-none : (m : model.Status) → room_at m 0 ≡ 0
unfolding room_at
room-none model.undecided = refl
room-none model.infeasible = refl
room-none model.solved = refl

pub room-undecided : (m : Status) (room : ℕ) → m ≡ Undecided → room_at (status_of m) room ≡ room
unfolding room_at status_of
room-undecided m room e = rw e

-- without room, a trace
pub trace-alone : (m : model.Status) {s : model.Search} {limit : ℕ} {keep : Bool} {a : Advanced} {old now : List ℕ} {list list₁ : List ℤ} (h : Advances s limit keep (room_at m 0) a old now list list₁) →
    trace_of a h.blocks ≡ advance limit s
unfolding advance_over ends_with
trace-alone m {s} {limit} h = ap (λ (l : Listing Trace). l.last) (h.trace ∙ ap (λ (r : ℕ). advance_over r limit s) (room-none m))

-- ---- where no turn works
abbrev stopped : Search → Ending → Advanced
stopped s e = record { ending = e; struck = 0; blocks = 0; state = s }

none-taken : (room : ℕ) (s : Search) → ends_with (trace_of (stopped s GoOn) []) ≡ advance_over room 0 (view s)
unfolding advance_over goes_on advance trace_of verdict_of view
none-taken zero s = refl
none-taken (suc room) s = refl

again-traced : (s : Search) (m : Status) (e : Ending) (v : Verdict) (limit : ℕ) → s.status ≡ m → step_by (status_of m) (view s) ≡ again (view s) v → verdict_of e (view s) ≡ v → ¬ (v ≡ go_on) →
    ¬ (limit ≡ 0) → trace_of (stopped s e) [] ≡ advance limit (view s)
unfolding trace_of
again-traced s m e v zero q b u n z = absurd (z refl)
again-traced s m e v (suc l) q b u n z =
    rw u (sym (advance-again l (view s) (status_of m) v (unfold view in ap status_of q) b n ∙ (unfold last_step again block_in view in refl)))

module _ (s : Search) (keep : Bool) (limit many : ℕ) (buffer : List ℕ) (list : List ℤ) where
  stays : (e : Ending) (room : ℕ) → ends_with (trace_of (stopped s e) []) ≡ advance_over room limit (view s) → Advances (view s) limit keep room (stopped s e) buffer buffer list list
  unfolding ends_with joined
  stays e room h =
      let z : (view s).core.variables * 0 ≡ 0 = omega arith in
      record { struck = []; how_many = refl; blocks = []; many = refl; trace = h; buffer = none_written keep buffer; listed = rw z }

  pub no_step : limit ≡ 0 → Advances (view s) limit keep (room_at (status_of s.status) many) (stopped s GoOn) buffer buffer list list
  no_step e = stays GoOn (room_at (status_of s.status) many) (rw e (none-taken (room_at (status_of s.status) many) s))

  again-stays : (m : Status) (e : Ending) (v : Verdict) → s.status ≡ m → room_at (status_of m) many ≡ 0 → step_by (status_of m) (view s) ≡ again (view s) v → verdict_of e (view s) ≡ v →
      ¬ (v ≡ go_on) → ¬ (limit ≡ 0) → Advances (view s) limit keep (room_at (status_of s.status) many) (stopped s e) buffer buffer list list
  again-stays m e v q r b u n z =
      let none : ends_with (trace_of (stopped s e) []) ≡ advance_over 0 limit (view s) = unfold advance_over in ap ends_with (again-traced s m e v limit q b u n z) in
      stays e (room_at (status_of s.status) many) (none ∙ ap (λ (k : ℕ). advance_over k limit (view s)) (sym (ap (λ (x : Status). room_at (status_of x) many) q ∙ r)))

  pub none-again : s.status ≡ Infeasible → ¬ (limit ≡ 0) → Advances (view s) limit keep (room_at (status_of s.status) many) (stopped s NoSolution) buffer buffer list list
  unfolding status_of room_at step_by verdict_of
  none-again q z = again-stays Infeasible NoSolution no_solution q refl refl refl (λ e. impossible (cc)) z

  pub solution-again : s.status ≡ Solved → ¬ (limit ≡ 0) → Advances (view s) limit keep (room_at (status_of s.status) many) (stopped s Solution) buffer buffer list list
  unfolding status_of room_at step_by verdict_of
  solution-again q z = again-stays Solved Solution (solution (lowers (view s).core.deepest.box)) q refl refl refl (λ e. impossible (cc)) z
