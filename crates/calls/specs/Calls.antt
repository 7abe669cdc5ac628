-- Demand 3 of whoever calls `open` on an accepted file, or `open_problem` on an acceptable problem, and then `step`, `trace` and `run` in any mixture, each on the
-- state that the call before left.
use Rattle.std.specs.Prelude.{ℕ, zero, suc, ◌+◌, ◌*◌, ◌/◌, ◌≤◌, ◌<◌, List, [], ◌∷◌, ◌++◌, ◌⊎◌, ◌↔◌, ◌≡◌, Result, Ok, Err, option_to_list, length, take, drop}
use Rattle.model_files.specs.Bytes.{block_length}
use Rattle.model_problems.specs.Problem as model
use Rattle.model_problems.specs.Problem.{variables}
use Rattle.model_files.specs.File.{problem_in}
use Rattle.model_walk.specs.Search.{open_problem, open_file}
use Rattle.model_walk.specs.Move.{slack}
use Rattle.model_walk.specs.Propagations.{bounds_set}
use Rattle.model_problems.specs.Points.{Point, points, Solution, First}
use Rattle.model_acceptance.specs.Acceptable.{Acceptable, open_given}
use Rattle.model_claims.specs.Demand.{Accepted, SameSolutions, MeetsCuts, with_budget}
use Rattle.problem.specs.declared.Refusal.{Refusal}
use Rattle.problem.specs.declared.Problem.{Problem}
use Rattle.problem.specs.View.{problem_of}
use Rattle.state.specs.declared.Search.{Search}
use Rattle.shown.specs.Opening.{seen_opened}
use Rattle.shown.specs.Seen.{padded, seen_stepped, seen_ran, seen_traced, step_seen, run_seen, trace_seen}
use Rattle.shown.specs.declared.Stepped.{Stepped}
use Rattle.answers.specs.declared.Ran.{Ran}
use Rattle.answers.specs.declared.Traced.{Traced}
use Rattle.answers.specs.declared.Verdict.TheVariants as verdict

-- ---- where a search starts
-- a file's bytes, or a problem in hand
pub data Source : Type 0 where
  file : List ℕ → Source
  value : Problem → Source

unfoldable pub problem_from : Source → model.Problem
problem_from (file f) = problem_in f
problem_from (value p) = problem_of p

-- it is not refused
abbrev pub Fine : Source → Type 0
Fine (file f) = Accepted f
Fine (value p) = Acceptable (problem_of p)

-- ---- the calls: what their contracts say of an answer
abbrev pub OpensFrom : Source → Result Search Refusal → Type 0
OpensFrom (file f) o = seen_opened o ≡ open_file f
OpensFrom (value p) o = seen_opened o ≡ open_given (problem_of p)

-- a call on a search with its answer; of a trace the buffer's bytes too, before and after
pub data Call : Type 0 where
  stepped : Result Stepped Refusal → Call
  traced : List ℕ → List ℕ → Result Traced Refusal → Call
  ran : Result Ran Refusal → Call

abbrev pub Makes : Search → Call → Type 0
Makes s (stepped r) = seen_stepped r ≡ step_seen s
Makes s (traced old new r) = seen_traced r new ≡ trace_seen s old
Makes s (ran q) = seen_ran q ≡ run_seen s

-- the verdict, the counts and the state that a call gives, which is what a run's answer holds; or its refusal
unfoldable pub mapped : {A B : Type 0} → (A → B) → Result A Refusal → Result B Refusal
mapped f (Ok x) = Ok (f x)
mapped f (Err e) = Err e

unfoldable pub told : Call → Result Ran Refusal
told (stepped r) = mapped (λ (x : Stepped). x.run) r
told (traced old new r) = mapped (λ (x : Traced). x.run) r
told (ran q) = q

-- the state after a call on s: one that is refused leaves s
unfoldable pub state_or : Search → Result Ran Refusal → Search
state_or s (Ok u) = u.state
state_or s (Err e) = s

-- ---- a list of calls, each on the state that the one before left
abbrev pub ListFrom : Search → List Call → Type 0
ListFrom s [] = Unit {0}
ListFrom s (c ∷ cs) = Makes s c × ListFrom (state_or s (told c)) cs

-- the state after them
unfoldable pub state_in : Search → List Call → Search
state_in s [] = s
state_in s (c ∷ cs) = state_in (state_or s (told c)) cs

-- ---- their journal: the blocks that were given, in order
-- the first k parts of a buffer, each of this size
unfoldable pub parts_at : {A : Type 0} → ℕ → ℕ → List A → List (List A)
parts_at size zero xs = []
parts_at size (suc k) xs = take size xs ∷ parts_at size k (drop size xs)

-- a run gives none, and neither does a call that is refused
unfoldable pub given : Call → List (List ℕ)
given (stepped (Ok r)) = option_to_list r.block
given (stepped (Err e)) = []
given (traced old new (Ok r)) = parts_at block_length r.blocks new
given (traced old new (Err e)) = []
given (ran q) = []

unfoldable pub journal_of : List Call → List (List ℕ)
journal_of [] = []
journal_of (c ∷ cs) = given c ++ journal_of cs

-- no call of the list is a run
abbrev pub NoRun : List Call → Type 0
NoRun [] = Unit {0}
NoRun (stepped r ∷ cs) = NoRun cs
NoRun (traced old new r ∷ cs) = NoRun cs
NoRun (ran q ∷ cs) = ⊥

-- the calls before the first run
unfoldable pub until_run : List Call → List Call
until_run [] = []
until_run (stepped r ∷ cs) = stepped r ∷ until_run cs
until_run (traced old new r ∷ cs) = traced old new r ∷ until_run cs
until_run (ran q ∷ cs) = []

-- ---- turns
-- how many turns a call may take: a step one, a trace as many as its buffer has room for blocks, a run as many as there are to the first verdict
unfoldable pub steps_in : ℕ → Call → ℕ
steps_in last (stepped r) = 1
steps_in last (traced old new r) = length old / block_length
steps_in last (ran q) = suc last

unfoldable pub steps_of : ℕ → List Call → ℕ
steps_of last [] = 0
steps_of last (c ∷ cs) = steps_in last c + steps_of last cs

-- ---- the claims
-- the same verdict, with its values
abbrev pub SameAnswer : Ran → Ran → Type 0
SameAnswer q u = q.verdict ≡ u.verdict

-- the same counts, of dead ends and of bounds set
abbrev pub SameCounts : Ran → Ran → Type 0
SameCounts q u = (q.count ≡ u.count) × (q.propagations ≡ u.propagations)

-- of the calls cs with c as the last of them. q is the run from the same opening, the first verdict comes with turn `last`, counted from 0, and `blocks`
-- is the whole journal
pub record CallAfter (p : model.Problem) (q : Ran) (last : ℕ) (blocks : List (List ℕ)) (cs : List Call) (c : Call) : Type 0 where
  -- it is not refused
  pub answer : Ran
  pub taken : told c ≡ Ok answer
  -- its count is at most the number of points; without a run it is the number of blocks given so far, and these are the journal's first
  pub bounded : answer.count ≤ points p
  pub counted : NoRun (cs ++ (c ∷ [])) → answer.count ≡ length (journal_of (cs ++ (c ∷ [])))
  pub blocks_so_far : NoRun (cs ++ (c ∷ [])) → journal_of (cs ++ (c ∷ [])) ≡ take answer.count blocks
  -- N5's count, in the answer and in the state, is the number of bounds that lines set in the turns so far, those of spent turns aside, and at most
  -- (dead ends + 1) times the sum of all hi − lo, the domain's slack
  pub tallied : answer.propagations ≡ bounds_set (steps_of last (cs ++ (c ∷ []))) (open_problem p)
  pub carried : answer.state.propagations ≡ answer.propagations
  pub creeping : answer.propagations ≤ suc answer.count * slack p.domain
  -- from the first run on no block is given
  pub silent : journal_of (cs ++ (c ∷ [])) ≡ journal_of (until_run (cs ++ (c ∷ [])))
  -- every solution meets every cut in the blocks
  pub cuts : (x : Point) → Solution p x → MeetsCuts (variables p) x (journal_of (cs ++ (c ∷ [])))
  -- it says 'go on' up to turn `last`, and from there on what the run says; a trace with no room for a block takes no turn and says 'go on'
  pub before : steps_of last (cs ++ (c ∷ [])) ≤ last → answer.verdict ≡ verdict.GoOn
  pub later : last < steps_of last (cs ++ (c ∷ [])) → 0 < steps_in last c → SameAnswer answer q × SameCounts answer q
  pub idle : steps_in last c ≡ 0 → answer.verdict ≡ verdict.GoOn

-- 'none' exactly when there is no solution, else the first solution, zeros past its values
pub record Decided (p : model.Problem) (q : Ran) : Type 0 where
  pub none-iff : (q.verdict ≡ verdict.NoSolution) ↔ ((x : Point) → Solution p x → ⊥)
  pub else-first : ¬ (q.verdict ≡ verdict.NoSolution) → (x : Point) × (q.verdict ≡ verdict.Solution (padded x)) × First p x

-- of all lists of calls from the state s of one opening of p, and the run q from there
pub record CallsFrom (p : model.Problem) (s : Search) (q : Result Ran Refusal) : Type 0 where
  -- the run is not refused
  pub answer : Ran
  pub taken : q ≡ Ok answer
  pub last : ℕ
  pub blocks : List (List ℕ)
  pub whole : length blocks ≡ answer.count
  pub call : (cs : List Call) (c : Call) → ListFrom s cs → Makes (state_in s cs) c → CallAfter p answer last blocks cs c
  -- the run ends with a verdict
  pub ended : ¬ (answer.verdict ≡ verdict.GoOn)
  -- with a budget of at least the points it decides; under every budget it decides or says 'spent'
  pub decides : points p ≤ p.budget → Decided p answer
  pub or-spent : Decided p answer ⊎ (answer.verdict ≡ verdict.OutOfBudget)

-- of one opening of p: it is not refused
pub record OpeningFrom (p : model.Problem) (o : Result Search Refusal) : Type 0 where
  pub state : Search
  pub accepted : o ≡ Ok state
  pub calls : (q : Result Ran Refusal) → Makes state (ran q) → CallsFrom p state q

-- a run after an opening
pub record RunFrom (s : Source) (q : Ran) : Type 0 where
  pub fine : Fine s
  pub opened : Search
  pub opens : OpensFrom s (Ok opened)
  pub runs : Makes opened (ran (Ok q))

-- of one and the same problem under two budgets
abbrev pub UnderBudget : Source → Source → Type 0
UnderBudget s t = problem_from t ≡ with_budget (problem_from s) (problem_from t).budget

abbrev pub EnoughBudget : Source → Type 0
EnoughBudget s = points (problem_from s) ≤ (problem_from s).budget

pub record CallsHoldFrom : Type 0 where
  pub opening : (s : Source) → Fine s → (o : Result Search Refusal) → OpensFrom s o → OpeningFrom (problem_from s) o
  -- a smaller budget: the same answer, or 'spent', whatever the number of points
  pub smaller : (s t : Source) (q u : Ran) → RunFrom s q → RunFrom t u → UnderBudget s t → (problem_from t).budget ≤ (problem_from s).budget →
      SameAnswer u q ⊎ (u.verdict ≡ verdict.OutOfBudget)
  -- equal answers for equal solution sets, whatever the budgets, but for 'spent'
  pub same : (s t : Source) (q u : Ran) → RunFrom s q → RunFrom t u → SameSolutions (problem_from s) (problem_from t) →
      SameAnswer q u ⊎ ((q.verdict ≡ verdict.OutOfBudget) ⊎ (u.verdict ≡ verdict.OutOfBudget))

-- with enough budget: at least the points
pub record WithEnoughFrom : Type 0 where
  -- the answer under another budget, smaller or larger, is that under one of at least the points, or 'spent'
  pub smaller : (s t : Source) (q u : Ran) → RunFrom s q → RunFrom t u → UnderBudget s t → EnoughBudget s → SameAnswer u q ⊎ (u.verdict ≡ verdict.OutOfBudget)
  -- equal answers for equal solution sets
  pub same : (s t : Source) (q u : Ran) → RunFrom s q → RunFrom t u → SameSolutions (problem_from s) (problem_from t) → EnoughBudget s → EnoughBudget t → SameAnswer q u
