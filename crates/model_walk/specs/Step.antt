-- Document 01's turn and run, as the public calls give them.
use Rattle.std.specs.Prelude.{ℕ, zero, suc, ◌+◌, ◌-◌, Bool, true, false, cond, List, [], ◌∷◌, map, eqb, ℤ}
use Rattle.std.proofs.Math.Option.{Option, none, some}
use Rattle.model_problems.specs.Constraint.{Bounds, Box}
use Rattle.model_problems.specs.Problem.{Result, ok, error}
use Rattle.model_walk.specs.Search.{Core, Status, undecided, infeasible, solved, Search}
use Rattle.model_walk.specs.Move.{Stop, descend, propagations_in}
use Rattle.model_walk.specs.Conflict.{Conflict, at_conflict}
use Rattle.model_files.specs.Journal.{Record, record_bytes}
use Rattle.model_walk.specs.Validity.{admitted}

-- 'go on', 'none', 'spent', or the solution's values
pub data Verdict : Type 0 where
  go_on no_solution out_of_budget : Verdict
  solution : List ℤ → Verdict

-- A turn's answer: the verdict, the count, N5's count, the journal block if a dead end was counted, and the walk.
pub record Outcome : Type 0 where
  pub verdict : Verdict
  pub count : ℕ
  pub propagations : ℕ
  pub block : Option (List ℕ)
  pub state : Search

-- the blocks of an answer: one or none
unfoldable pub block_in : Option (List ℕ) → List (List ℕ)
block_in none = []
block_in (some b) = b ∷ []

unfoldable pub lowers : Box → List ℤ
lowers box = map (λ (b : Bounds). b.lower) box

-- N5's count after a turn that is not taken back: the bounds set before it and in it
unfoldable pub propagated : Search → ℕ
propagated s = s.propagations + propagations_in s.core

-- the counts stay
unfoldable pub with_status : Search → Core → Status → Search
with_status s c m = record { core = c; budget = s.budget; conflicts = s.conflicts; propagations = s.propagations; status = m }

-- ---- without a dead end
unfoldable pub solved_by : Search → Core → Outcome
solved_by s c =
    record {
      verdict = solution (lowers c.deepest.box);
      count = s.conflicts;
      propagations = propagated s;
      block = none;
      state = record { core = c; budget = s.budget; conflicts = s.conflicts; propagations = propagated s; status = solved };
    }

-- ---- at a dead end
-- as many as the budget are counted already: the state stays as before the turn
unfoldable pub budget_spent : Search → Outcome
budget_spent s = record { verdict = out_of_budget; count = s.conflicts; propagations = s.propagations; block = none; state = s }

unfoldable pub record_of : ℕ → Conflict → Record
record_of count x =
    record {
      count = count;
      falsified = x.falsified;
      cut_number = x.cut_number;
      depth = x.depth;
      back = x.back;
      cut = x.cut;
      used = x.used;
    }

-- 'none' where d is 0
unfoldable pub verdict_at : ℕ → Verdict
verdict_at zero = no_solution
verdict_at (suc d) = go_on

unfoldable pub status_at : ℕ → Status
status_at zero = infeasible
status_at (suc d) = undecided

unfoldable pub counted : Search → Conflict → Outcome
counted s x =
    record {
      verdict = verdict_at x.back;
      count = suc s.conflicts;
      propagations = propagated s;
      block = some (record_bytes (record_of (suc s.conflicts) x));
      state = record { core = x.core; budget = s.budget; conflicts = suc s.conflicts; propagations = propagated s; status = status_at x.back };
    }

unfoldable pub on_conflict : Search → Core → ℕ → Outcome
on_conflict s c j = cond (eqb s.conflicts s.budget) (budget_spent s) (counted s (at_conflict c j))

-- ---- a turn
unfoldable pub ended_at : Search → Core → Option ℕ → Outcome
ended_at s c none = solved_by s c
ended_at s c (some j) = on_conflict s c j

unfoldable pub ended : Search → Stop → Outcome
ended s e = ended_at s e.core e.falsified

-- the verdict of a marked walk, again
unfoldable pub again : Search → Verdict → Outcome
again s v = record { verdict = v; count = s.conflicts; propagations = s.propagations; block = none; state = s }

unfoldable pub step_by : Status → Search → Outcome
step_by undecided s = ended s (descend s.core)
step_by infeasible s = again s no_solution
step_by solved s = again s (solution (lowers s.core.deepest.box))

unfoldable pub step : Search → Outcome
step s = step_by s.status s

-- ---- a run: turns to a verdict, without blocks. A turn that goes on counts a dead end, so budget − conflicts bounds them.
unfoldable pub continue : Verdict → Outcome → (Search → Outcome) → Outcome
continue go_on o go = go o.state
continue no_solution o go = o
continue out_of_budget o go = o
continue (solution v) o go = o

unfoldable pub run_for : ℕ → Search → Outcome
run_for zero s = step s
run_for (suc fuel) s = let o = step s in continue o.verdict o (run_for fuel)

unfoldable pub without_block : Outcome → Outcome
without_block o = record { verdict = o.verdict; count = o.count; propagations = o.propagations; block = none; state = o.state }

unfoldable pub run : Search → Outcome
run s = without_block (run_for (s.budget - s.conflicts) s)

-- ---- the calls: a foreign walk is refused with 9, before all else. A run tests its state once, and not after each turn
unfoldable pub checked : {A : Type 0} → Bool → A → Result A
checked true o = ok o
checked false o = error 9

unfoldable pub step_call : Search → Result Outcome
step_call s = checked (admitted s) (step s)

unfoldable pub run_call : Search → Result Outcome
run_call s = checked (admitted s) (run s)
