-- Turns repeated with their blocks: a run that keeps the journal.
use Rattle.std.specs.Prelude.{ℕ, zero, suc, ◌*◌, ◌/◌, Bool, true, false, List, [], ◌∷◌, ◌++◌, length, drop}
use Rattle.model_files.specs.Bytes.{block_length}
use Rattle.model_problems.specs.Problem.{Result, ok, error}
use Rattle.model_walk.specs.Search.{Search}
use Rattle.model_walk.specs.Validity.{admitted}
use Rattle.model_walk.specs.Step.{Verdict, go_on, no_solution, out_of_budget, solution, Outcome, block_in, step}

-- the last turn's verdict and counts, the blocks of all of them, and the walk
pub record Trace : Type 0 where
  pub verdict : Verdict
  pub count : ℕ
  pub propagations : ℕ
  pub blocks : List (List ℕ)
  pub state : Search

unfoldable pub with_blocks : List (List ℕ) → Trace → Trace
with_blocks bs t = record { verdict = t.verdict; count = t.count; propagations = t.propagations; blocks = bs ++ t.blocks; state = t.state }

-- turns that end with this one: its verdict and counts, with the blocks and the walk of all of them
abbrev pub ending_with : Outcome → List (List ℕ) → Search → Trace
ending_with o blocks s = record { verdict = o.verdict; count = o.count; propagations = o.propagations; blocks = blocks; state = s }

unfoldable pub last_step : Outcome → Trace
last_step o = ending_with o (block_in o.block) o.state

unfoldable pub advanced : Verdict → Outcome → (Search → Trace) → Trace
advanced go_on o go = with_blocks (block_in o.block) (go o.state)
advanced no_solution o go = last_step o
advanced out_of_budget o go = last_step o
advanced (solution v) o go = last_step o

-- at most `limit` turns, to a verdict; with none it answers 'go on', the counts and the walk as they are
unfoldable pub advance : ℕ → Search → Trace
advance zero s = record { verdict = go_on; count = s.conflicts; propagations = s.propagations; blocks = []; state = s }
advance (suc limit) s = let o = step s in advanced o.verdict o (advance limit)

-- ---- into a lent buffer: as many turns as it has room for blocks. They stand at its start; its other bytes stay
unfoldable pub joined : {A : Type 0} → List (List A) → List A
joined [] = []
joined (b ∷ bs) = b ++ joined bs

pub record Traced : Type 0 where
  pub answer : Result Trace
  pub buffer : List ℕ

unfoldable pub written : Trace → List ℕ → Traced
written t buffer = record { answer = ok t; buffer = joined t.blocks ++ drop (block_length * length t.blocks) buffer }

-- a foreign walk is refused with 9, and the buffer keeps its bytes
unfoldable pub traced_by : Bool → Search → List ℕ → Traced
traced_by true s buffer = written (advance (length buffer / block_length) s) buffer
traced_by false s buffer = record { answer = error 9; buffer = buffer }

unfoldable pub trace_call : Search → List ℕ → Traced
trace_call s buffer = traced_by (admitted s) s buffer
