-- N4's claim: of every list of calls from a fresh opening of an acceptable problem, and so of an accepted file; turns, traces, runs and strikes in any order.
use Rattle.std.specs.Prelude.{ℕ, suc, ◌+◌, ◌-◌, ◌*◌, ◌≤◌, ◌<◌, Bool, true, false, cond, List, [], ◌∷◌, ◌++◌, ◌⊎◌, ◌↔◌, ◌≡◌, length, take}
use Rattle.std.proofs.Math.Option.{some}
use Rattle.std.proofs.Math.ListN.{get_elem?}
use Rattle.model_problems.specs.Ranges.{max_propagations}
use Rattle.model_problems.specs.Problem.{Problem, variables}
use Rattle.model_files.specs.File.{problem_in}
use Rattle.model_walk.specs.Search.{Search, open_problem}
use Rattle.model_walk.specs.Move.{slack}
use Rattle.model_walk.specs.Validity.{admitted}
use Rattle.model_walk.specs.Step.{Verdict, go_on, no_solution, out_of_budget, solution, step, run}
use Rattle.model_walk.specs.Trace.{Trace, last_step, advance}
use Rattle.model_walk.specs.Exclude.{Exclusion, struck, ended, unsolved, Excluded, exclude}
use Rattle.model_walk.specs.Propagations.{bounds_set}
use Rattle.model_acceptance.specs.Acceptable.{Acceptable}
use Rattle.model_problems.specs.Points.{Point, points, Solution, Before, all_solutions}
use Rattle.model_claims.specs.Demand.{MeetsCuts, In, Accepted}

-- ---- the calls on a walk: a turn, a trace with room for so many blocks, a run, a strike
pub data Call : Type 0 where
  one_turn all_turns strike : Call
  turns : ℕ → Call

-- what a call says: a verdict, an answer to a strike, or a refusal's number
pub data Reply : Type 0 where
  verdict : Verdict → Reply
  exclusion : Exclusion → Reply
  refused : ℕ → Reply

-- with the counts that stand in it or in its walk, its journal blocks, and the walk
pub record Answer : Type 0 where
  pub reply : Reply
  pub count : ℕ
  pub propagations : ℕ
  pub blocks : List (List ℕ)
  pub state : Search

unfoldable pub traced : Trace → Answer
traced t = record { reply = verdict t.verdict; count = t.count; propagations = t.propagations; blocks = t.blocks; state = t.state }

unfoldable pub excluded : Excluded → Answer
excluded e = record { reply = exclusion e.answer; count = e.state.conflicts; propagations = e.state.propagations; blocks = []; state = e.state }

unfoldable pub taken : Call → Search → Answer
taken one_turn s = traced (last_step (step s))
taken all_turns s = traced (last_step (run s))
taken strike s = excluded (exclude s)
taken (turns room) s = traced (advance room s)

-- a foreign walk is refused with 9, before all else
unfoldable pub answered_by : Bool → Call → Search → Answer
answered_by true c s = taken c s
answered_by false c s = record { reply = refused 9; count = 0; propagations = 0; blocks = []; state = s }

unfoldable pub answer : Call → Search → Answer
answer c s = answered_by (admitted s) c s

-- ---- a list of calls, each on the walk that the one before returned; the latest comes first
unfoldable pub walk : List Call → Search → Search
walk [] s = s
walk (c ∷ cs) s = (answer c (walk cs s)).state

-- what the call c says after the calls cs
unfoldable pub says : Call → List Call → Search → Reply
says c cs s = (answer c (walk cs s)).reply

-- their journal: the blocks given, in order
unfoldable pub blocks_of : List Call → Search → List (List ℕ)
blocks_of [] s = []
blocks_of (c ∷ cs) s = blocks_of cs s ++ (answer c (walk cs s)).blocks

-- no run, which gives no blocks, is among them
abbrev pub NoRun : List Call → Type 0
NoRun [] = Unit {0}
NoRun (one_turn ∷ cs) = NoRun cs
NoRun (all_turns ∷ cs) = ⊥
NoRun (strike ∷ cs) = NoRun cs
NoRun (turns room ∷ cs) = NoRun cs

-- ---- the solutions that they show
unfoldable pub shown_in : Reply → List Point
shown_in (verdict go_on) = []
shown_in (verdict no_solution) = []
shown_in (verdict out_of_budget) = []
shown_in (verdict (solution v)) = v ∷ []
shown_in (exclusion e) = []
shown_in (refused e) = []

-- whether a solution stands shown: one was, and was not struck out since
unfoldable pub stands_after : Reply → Bool → Bool
stands_after (verdict go_on) b = b
stands_after (verdict no_solution) b = b
stands_after (verdict out_of_budget) b = b
stands_after (verdict (solution v)) b = true
stands_after (exclusion struck) b = false
stands_after (exclusion ended) b = b
stands_after (exclusion unsolved) b = b
stands_after (refused e) b = b

unfoldable pub stands : List Call → Search → Bool
stands [] s = false
stands (c ∷ cs) s = stands_after (says c cs s) (stands cs s)

-- the solutions shown, in order; one that still stands is not shown anew
unfoldable pub shown : List Call → Search → List Point
shown [] s = []
shown (c ∷ cs) s = shown cs s ++ cond (stands cs s) [] (shown_in (says c cs s))

-- how many were struck out
unfoldable pub struck_in : Reply → ℕ
struck_in (verdict v) = 0
struck_in (exclusion struck) = 1
struck_in (exclusion ended) = 0
struck_in (exclusion unsolved) = 0
struck_in (refused e) = 0

unfoldable pub strikes : List Call → Search → ℕ
strikes [] s = 0
strikes (c ∷ cs) s = struck_in (says c cs s) + strikes cs s

-- ---- N5: the bounds that lines set in the calls' turns that were not taken back. A run takes at most one turn more than the budget has left
unfoldable pub turns_of : Call → Search → ℕ
turns_of one_turn s = 1
turns_of all_turns s = suc (s.budget - s.conflicts)
turns_of strike s = 0
turns_of (turns room) s = room

unfoldable pub set_by : Call → Search → ℕ
set_by c s = cond (admitted s) (bounds_set (turns_of c s) s) 0

unfoldable pub set_in : List Call → Search → ℕ
set_in [] s = 0
set_in (c ∷ cs) s = set_by c (walk cs s) + set_in cs s

-- enough budget, or few enough dead ends and strikes for all hi − lo, for every count to stay within N5's limit
abbrev pub Modest : Problem → List Call → Search → Type 0
Modest p cs s = (points p ≤ p.budget) ⊎ (suc ((walk cs s).conflicts + strikes cs s) * slack p.domain ≤ max_propagations)

-- ---- a list kept up: a strike where a solution stands, else a turn, a run, or a trace with room
abbrev pub Due : Bool → Call → Type 0
Due true one_turn = ⊥
Due true all_turns = ⊥
Due true strike = Unit {0}
Due true (turns room) = ⊥
Due false one_turn = Unit {0}
Due false all_turns = Unit {0}
Due false strike = ⊥
Due false (turns room) = 0 < room

-- 'ended' and 'none' end a list that shows every solution; 'spent' ends it too, and so does a refusal
abbrev pub Completes : Reply → Type 0
Completes r = (r ≡ exclusion ended) ⊎ (r ≡ verdict no_solution)

abbrev pub Ends : Reply → Type 0
Ends r = Completes r ⊎ ((r ≡ verdict out_of_budget) ⊎ (r ≡ refused 9))

abbrev pub KeptUp : List Call → Search → Type 0
KeptUp [] s = Unit {0}
KeptUp (c ∷ cs) s = Due (stands cs s) c × ¬ (Ends (says c cs s)) × KeptUp cs s

-- a call that takes a turn
abbrev pub Turns : Call → Type 0
Turns c = Due false c

-- ---- dictionary order
abbrev pub BeforeAll : Point → List Point → Type 0
BeforeAll v [] = Unit {0}
BeforeAll v (u ∷ us) = Before v u × BeforeAll v us

abbrev pub Ascending : List Point → Type 0
Ascending [] = Unit {0}
Ascending (v ∷ vs) = BeforeAll v vs × Ascending vs

-- ---- the claim
pub record Enumerates (p : Problem) (s : Search) : Type 0 where
  -- `all_solutions` lists all solutions in dictionary order, each once
  pub every : (x : Point) → Solution p x ↔ In x (all_solutions p)
  pub ordered : Ascending (all_solutions p)
  -- no call is refused, with a budget of at least the points, or while (dead ends + struck out + 1) times the domain's slack is within N5's limit
  pub accepted : (cs : List Call) → Modest p cs s → admitted (walk cs s) ≡ true
  -- the solutions shown are the first of that list
  pub prefix : (cs : List Call) → shown cs s ≡ take (length (shown cs s)) (all_solutions p)
  -- however often it is shown: after k strikes it is the one at position k, counted from 0
  pub position : (c : Call) (cs : List Call) (x : Point) → says c cs s ≡ verdict (solution x) → get_elem? (all_solutions p) (strikes cs s) ≡ some x
  -- those shown were struck out, but for one that stands; where none stands a strike that is not refused says 'no form'
  pub one-stands : (cs : List Call) → length (shown cs s) ≡ strikes cs s + cond (stands cs s) 1 0
  pub no-form : (cs : List Call) → admitted (walk cs s) ≡ true → stands cs s ≡ false → says strike cs s ≡ exclusion unsolved
  -- the count, in each answer and in the walk, is the number of blocks given so far where no run is among the calls
  pub counted : (c : Call) (cs : List Call) → admitted (walk cs s) ≡ true → (answer c (walk cs s)).count ≡ (walk (c ∷ cs) s).conflicts
  pub carried : (cs : List Call) → NoRun cs → (walk cs s).conflicts ≡ length (blocks_of cs s)
  -- dead ends plus solutions shown, those struck out among them, are at most the number of points
  pub bounded : (cs : List Call) → (walk cs s).conflicts + length (shown cs s) ≤ points p
  -- N5's count, in each answer and in the walk, is the number of bounds that lines set in the turns that were not taken back, and at most (dead ends + struck
  -- out + 1) times the sum of all hi − lo, the domain's slack
  pub propagated : (c : Call) (cs : List Call) → admitted (walk cs s) ≡ true → (answer c (walk cs s)).propagations ≡ (walk (c ∷ cs) s).propagations
  pub tallied : (cs : List Call) → (walk cs s).propagations ≡ set_in cs s
  pub creeping : (cs : List Call) → (walk cs s).propagations ≤ suc ((walk cs s).conflicts + strikes cs s) * slack p.domain
  -- every solution, one struck out too, meets every cut in the blocks
  pub cuts : (cs : List Call) (x : Point) → Solution p x → MeetsCuts (variables p) x (blocks_of cs s)
  -- 'none', 'spent' and a solution are said again by every call that is not refused, and the walk stays, until a strike
  pub again : (c d : Call) (cs : List Call) (v : Verdict) → admitted (walk (c ∷ cs) s) ≡ true → says c cs s ≡ verdict v → ¬ (v ≡ go_on) → Turns d → (says d (c ∷ cs) s ≡ verdict v) × (walk (d ∷ c ∷ cs) s ≡ walk (c ∷ cs) s)
  -- with 'ended' or 'none' every solution has been shown
  pub complete : (c : Call) (cs : List Call) → Completes (says c cs s) → shown (c ∷ cs) s ≡ all_solutions p
  -- a list that is kept up ends; with a budget of at least the points neither with 'spent' nor, as above, with a refusal
  pub ends : (cs : List Call) → KeptUp cs s → length cs < 2 * points p
  pub enough : points p ≤ p.budget → (c : Call) (cs : List Call) → ¬ (says c cs s ≡ verdict out_of_budget)

-- N4 in one line: with a budget of at least the points, a list that is kept up ends, and has then shown all solutions
abbrev pub ShowsAll : Problem → Search → Type 0
ShowsAll p s =
    points p ≤ p.budget → (c : Call) (cs : List Call) → KeptUp cs s → (length cs < 2 * points p) × (Ends (says c cs s) → shown (c ∷ cs) s ≡ all_solutions p)

-- of every acceptable problem, in a file or not
pub record ListingsOfProblems : Type 0 where
  pub lists : (p : Problem) → Acceptable p → Enumerates p (open_problem p)
  pub all_shown : (p : Problem) → Acceptable p → ShowsAll p (open_problem p)

-- of files, a case
pub record Listings : Type 0 where
  pub lists : (f : List ℕ) → Accepted f → Enumerates (problem_in f) (open_problem (problem_in f))
  pub all_shown : (f : List ℕ) → Accepted f → ShowsAll (problem_in f) (open_problem (problem_in f))
