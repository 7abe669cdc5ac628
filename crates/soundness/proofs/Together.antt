-- Turns that one call takes are turns one after the other.
use Prim.Native.Nat.{ℕ, zero, suc}
use mathlib.Core.Bool.{Bool, true, false, cond}
use mathlib.Core.List.{List, [], append-nil}
use mathlib.Core.Option.{Option, none, some}
use mathlib.Core.Path.{◌≡◌, refl, ap, ◌∙◌}
use lib.Dec.{eqb}
use lib.ListN.{length}
use Rattle.model_files.specs.Bytes.{block_length}
use Rattle.model_problems.specs.Problem.{Problem}
use Rattle.model_walk.specs.Search.{Core, Status, undecided, infeasible, solved, Search}
use Rattle.model_walk.specs.Move.{descend}
use Rattle.model_walk.specs.Conflict.{at_conflict}
use Rattle.model_problems.specs.Points.{Point}
use Rattle.model_walk.specs.Step.{Verdict, go_on, no_solution, out_of_budget, solution, Outcome, block_in, solved_by, budget_spent, counted, on_conflict, ended_at, ended, again, step_by, step}
use Rattle.format.proofs.RecordCut.{length-record}
use Rattle.model_walk.specs.Trace.{Trace, ending_with, with_blocks, last_step, advanced, advance}
use Rattle.validity.proofs.Every.{Every}
use Rattle.validity.proofs.Elements.{every_append}
use Rattle.validity.proofs.States.{sizes-fit}
use Rattle.validity.specs.Valid.{Valid}
use Rattle.validity.proofs.Steps.{step-valid, impossible}
use Rattle.validity.proofs.Repeating.{advance-one}
use Rattle.soundness.proofs.StepLists.{after_turns, turn_blocks, Repeats, repeats-reached, Reached, stepped, fixed-after, later_same}

-- ---- each block has its length
abbrev pub IsBlock : List ℕ → Type 0
IsBlock b = length b ≡ block_length

abbrev pub Long : List (List ℕ) → Type 0
Long bs = Every IsBlock bs

ended-long : (s : Search) (c : Core) (e : Option ℕ) → Long (block_in (ended_at s c e).block)
unfolding ended_at block_in solved_by on_conflict
ended-long s c none = tt
ended-long s c (some j) = go (eqb s.conflicts s.budget)
  where
    go : (t : Bool) → Long (block_in (cond t (budget_spent s) (counted s (at_conflict c j))).block)
    go true = unfold budget_spent in tt
    go false = unfold counted in (length-record _, tt)

by-long : (m : Status) (s : Search) → Long (block_in (step_by m s).block)
unfolding step_by ended again block_in
by-long undecided s = ended-long s (descend s.core).core (descend s.core).falsified
by-long infeasible s = tt
by-long solved s = tt

pub step-long : (s : Search) → Long (block_in (step s).block)
unfolding step
step-long s = by-long s.status s

advanced-long : (v : Verdict) (o : Outcome) (go : Search → Trace) → Long (block_in o.block) → Long (go o.state).blocks → Long (advanced v o go).blocks
unfolding advanced with_blocks last_step
advanced-long go_on o go h g = every_append IsBlock (block_in o.block) (go o.state).blocks h g
advanced-long no_solution o go h g = h
advanced-long out_of_budget o go h g = h
advanced-long (solution x) o go h g = h

pub advance-long : (n : ℕ) (s : Search) → Long (advance n s).blocks
unfolding advance
advance-long zero s = tt
advance-long (suc n) s = advanced-long (step s).verdict (step s) (advance n) (step-long s) (advance-long n (step s).state)

-- ---- k + 1 turns in one answer: their blocks, and what the last of them gives
unfoldable pub turns_together : ℕ → Search → Trace
turns_together k s = ending_with (step (after_turns k s)) (turn_blocks (suc k) s) (after_turns (suc k) s)

-- after the verdict
blocks-none : (k : ℕ) (s : Search) → (step s).state ≡ s → (step s).block ≡ none → turn_blocks k s ≡ []
unfolding turn_blocks block_in
blocks-none zero s e b = refl
blocks-none (suc k) s e b = rw (b, e) (blocks-none k s e b)

last-together : (t : ℕ) (s : Search) → Repeats (step s) → last_step (step s) ≡ turns_together (suc t) s
unfolding last_step turns_together
last-together t s r =
    let l = later_same (suc t) s r in
    let e : after_turns (suc (suc t)) s ≡ (step s).state = unfold after_turns in fixed-after (suc t) (step s).state r.state in
    let b : turn_blocks (suc (suc t)) s ≡ block_in (step s).block = unfold turn_blocks in rw (blocks-none (suc t) (step s).state r.state r.block, append-nil) in
    rw (l.0, l.1, l.2, e, b)

more-together : (t : ℕ) (s : Search) → with_blocks (block_in (step s).block) (turns_together t (step s).state) ≡ turns_together (suc t) s
unfolding with_blocks turns_together after_turns turn_blocks
more-together t s = refl

pub one-together : (s : Search) → last_step (step s) ≡ turns_together zero s
unfolding last_step turns_together after_turns turn_blocks
one-together s = rw append-nil

module _ (p : Problem) (Left : Point → Type 0) (struck : ℕ) where
  by-verdict : (t : ℕ) (s : Search) → Reached p Left struck s → (w : Verdict) → (step s).verdict ≡ w → advance (suc t) (step s).state ≡ turns_together t (step s).state →
      advanced w (step s) (advance (suc t)) ≡ turns_together (suc t) s
  unfolding advanced
  by-verdict t s r go_on e h = ap (with_blocks (block_in (step s).block)) h ∙ more-together t s
  by-verdict t s r no_solution e h = last-together t s (repeats-reached p Left struck s r (λ n. impossible (cc)))
  by-verdict t s r out_of_budget e h = last-together t s (repeats-reached p Left struck s r (λ n. impossible (cc)))
  by-verdict t s r (solution x) e h = last-together t s (repeats-reached p Left struck s r (λ n. impossible (cc)))

  advance-more : (t : ℕ) (s : Search) → advance (suc (suc t)) s ≡ advanced (step s).verdict (step s) (advance (suc t))
  unfolding advance
  advance-more t s = refl

  pub together : (t : ℕ) (s : Search) → Valid s → Reached p Left struck s → advance (suc t) s ≡ turns_together t s
  together zero s v r = advance-one s (sizes-fit s v.tests).conflicts ∙ one-together s
  together (suc t) s v r = advance-more t s ∙ by-verdict t s r (step s).verdict refl (together t (step s).state (step-valid s v) (stepped p Left struck s r).next)
