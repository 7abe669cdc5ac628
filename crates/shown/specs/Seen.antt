-- What a turn, a run and a trace show: document 01's answer, and what it leaves free, named.
use Rattle.std.specs.Prelude.{ℕ, ◌-◌, List, ◌++◌, ℤ, length, take, Result, Option, Some, None}
use Rattle.std.proofs.Math.Option as maybe
use Rattle.model_problems.specs.Points.{Point}
use Rattle.model_problems.specs.Problem as answer
use Rattle.model_walk.specs.Search as model
use Rattle.model_walk.specs.Step.{Verdict as ModelVerdict, Outcome, go_on, no_solution, out_of_budget, solution, step_call, run_call}
use Rattle.model_walk.specs.Trace.{Trace, trace_call}
use Rattle.fields.specs.Fields.{room, zeros}
use Rattle.problem.specs.declared.Refusal.{Refusal}
use Rattle.problem.specs.Answer.{seen_by, shown_by}
use Rattle.state.specs.View.{view}
use Rattle.state.specs.declared.Search.{Search}
use Rattle.answers.specs.declared.Verdict.{Verdict}
use Rattle.answers.specs.declared.Verdict.TheVariants.{GoOn, NoSolution, OutOfBudget, Solution}
use Rattle.shown.specs.declared.Stepped.{Stepped}
use Rattle.answers.specs.declared.Ran.{Ran}
use Rattle.answers.specs.declared.Traced.{Traced}

-- ---- verdicts
-- document 01's for each case; a solution's values are the first n of the array
unfoldable pub verdict_of : ℕ → Verdict → ModelVerdict
verdict_of n GoOn = go_on
verdict_of n NoSolution = no_solution
verdict_of n OutOfBudget = out_of_budget
verdict_of n (Solution values) = solution (take n values)

-- the array of 32 numbers: the values, and zeros past them
unfoldable pub padded : Point → List ℤ
padded v = v ++ zeros (room - length v)

-- the case of document 01's, its array whole
unfoldable pub case_of : ModelVerdict → Verdict
case_of go_on = GoOn
case_of no_solution = NoSolution
case_of out_of_budget = OutOfBudget
case_of (solution v) = Solution (padded v)

-- ---- what a caller sees of a run
pub record Seen : Type 0 where
  -- document 01's verdict, and the case of the code's, whole
  pub verdict : ModelVerdict
  pub whole : Verdict
  pub count : ℕ
  pub propagations : ℕ
  -- the state through its view
  pub state : model.Search

unfoldable pub seen : Ran → Seen
seen r = record { verdict = verdict_of r.state.n r.verdict; whole = r.verdict; count = r.count; propagations = r.propagations; state = view r.state }

-- and what document 01's answer shows
unfoldable pub shown : Outcome → Seen
shown o = record { verdict = o.verdict; whole = case_of o.verdict; count = o.count; propagations = o.propagations; state = o.state }

-- ---- a run: a refusal shows its number alone
unfoldable pub seen_ran : Result Ran Refusal → answer.Result Seen
seen_ran r = seen_by seen r

unfoldable pub run_seen : Search → answer.Result Seen
run_seen s = shown_by shown (run_call (view s))

-- ---- a turn: with the journal block, if a dead end was counted
pub record SeenTurn : Type 0 where
  pub run : Seen
  pub block : maybe.Option (List ℕ)

unfoldable pub block_of : Option (List ℕ) → maybe.Option (List ℕ)
block_of None = maybe.none
block_of (Some b) = maybe.some b

unfoldable pub seen_turn : Stepped → SeenTurn
seen_turn r = record { run = seen r.run; block = block_of r.block }

unfoldable pub shown_turn : Outcome → SeenTurn
shown_turn o = record { run = shown o; block = o.block }

unfoldable pub seen_stepped : Result Stepped Refusal → answer.Result SeenTurn
seen_stepped r = seen_by seen_turn r

unfoldable pub step_seen : Search → answer.Result SeenTurn
step_seen s = shown_by shown_turn (step_call (view s))

-- ---- a trace: with the number of journal blocks, and the bytes of the lent buffer
pub record SeenTrace : Type 0 where
  pub run : Seen
  pub blocks : ℕ

pub record SeenTraced : Type 0 where
  pub answer : answer.Result SeenTrace
  pub buffer : List ℕ

unfoldable pub seen_trace : Traced → SeenTrace
seen_trace r = record { run = seen r.run; blocks = r.blocks }

unfoldable pub shown_trace : Trace → SeenTrace
shown_trace t =
    record {
      run = record { verdict = t.verdict; whole = case_of t.verdict; count = t.count; propagations = t.propagations; state = t.state };
      blocks = length t.blocks;
    }

unfoldable pub seen_traced : Result Traced Refusal → List ℕ → SeenTraced
seen_traced r buffer = record { answer = seen_by seen_trace r; buffer = buffer }

unfoldable pub trace_seen : Search → List ℕ → SeenTraced
trace_seen s buffer = let t = trace_call (view s) buffer in record { answer = shown_by shown_trace t.answer; buffer = t.buffer }
