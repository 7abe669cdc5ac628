-- N4 of whoever calls `open` on an accepted file, and then `step`, `trace`, `run`, `exclude` and `list` in any order, each on the state that the call before left.
use Rattle.std.specs.Prelude.{ℕ, zero, suc, ◌+◌, ◌-◌, ◌*◌, ◌/◌, ◌≤◌, ◌<◌, Bool, true, false, cond, List, [], ◌∷◌, ◌++◌, map, ◌⊎◌, ◌↔◌, ◌≡◌, Result, Ok, Err, ℤ, length, take, drop}
use Rattle.std.proofs.Math.Option.{some}
use Rattle.std.proofs.Math.ListN.{get_elem?}
use Rattle.model_files.specs.Bytes.{block_length}
use Rattle.model_problems.specs.Problem.{Problem, variables}
use Rattle.model_problems.specs.Ranges.{max_propagations}
use Rattle.model_walk.specs.Search as model
use Rattle.model_walk.specs.Move.{slack}
use Rattle.model_walk.specs.Validity.{admitted}
use Rattle.model_walk.specs.Step.{run}
use Rattle.model_walk.specs.Exclude.{exclude}
use Rattle.model_walk.specs.Propagations.{bounds_set}
use Rattle.model_problems.specs.Points.{Point, points, Solution, all_solutions}
use Rattle.model_claims.specs.Demand.{MeetsCuts}
use Rattle.state.specs.View.{view}
use Rattle.state.specs.declared.Search.{Search}
use Rattle.shown.specs.Seen.{padded}
use Rattle.shown.specs.Excluding.{seen_excluded, exclude_seen}
use Rattle.shown.specs.Listing.{seen_listed, list_seen}
use Rattle.problem.specs.declared.Refusal.{Refusal}
use Rattle.problem.specs.declared.Refusal.TheVariants.{InvalidSearch}
use Rattle.answers.specs.declared.Ran.{Ran}
use Rattle.shown.specs.declared.Excluded.{Excluded}
use Rattle.shown.specs.declared.Exclusion.{Exclusion}
use Rattle.shown.specs.declared.Exclusion.TheVariants as exclusion
use Rattle.answers.specs.declared.Listed.{Listed}
use Rattle.answers.specs.declared.Verdict.{Verdict}
use Rattle.answers.specs.declared.Verdict.TheVariants as verdict
use Rattle.calls.specs.Calls.{Source, problem_from, Fine, OpensFrom, Call, stepped, traced, ran, Makes, mapped, told, state_or, parts_at, given, SameAnswer, SameCounts}

-- ---- the calls, strikes and listings among them: what their contracts say of an answer
-- of a listing the buffer's numbers too, before and after
pub data Action : Type 0 where
  called : Call → Action
  excluded : Result Excluded Refusal → Action
  listed : List ℤ → List ℤ → Result Listed Refusal → Action

abbrev pub Does : Search → Action → Type 0
Does s (called c) = Makes s c
Does s (excluded e) = seen_excluded e ≡ exclude_seen s
Does s (listed old new r) = seen_listed r new ≡ list_seen s old

-- what the run after a listing's last strike gives, and how many it strikes out: none where it is refused
unfoldable pub last_run : Result Listed Refusal → Result Ran Refusal
last_run r = mapped (λ (l : Listed). l.last) r

unfoldable pub struck_of : Result Listed Refusal → ℕ
struck_of (Ok l) = l.struck
struck_of (Err e) = 0

-- the state after an action on x: one that is refused leaves x
unfoldable pub state_of : Search → Action → Search
state_of x (called c) = state_or x (told c)
state_of x (excluded (Ok e)) = e.state
state_of x (excluded (Err e)) = x
state_of x (listed old new r) = state_or x (last_run r)

-- ---- a list of calls; the latest comes first
unfoldable pub state_after : Search → List Action → Search
state_after s [] = s
state_after s (a ∷ acts) = state_of (state_after s acts) a

abbrev pub DoneFrom : Search → List Action → Type 0
DoneFrom s [] = Unit {0}
DoneFrom s (a ∷ acts) = Does (state_after s acts) a × DoneFrom s acts

-- the blocks given, in order; a strike and a listing give none
unfoldable pub given_by : Action → List (List ℕ)
given_by (called c) = given c
given_by (excluded e) = []
given_by (listed old new r) = []

unfoldable pub blocks_of : List Action → List (List ℕ)
blocks_of [] = []
blocks_of (a ∷ acts) = blocks_of acts ++ given_by a

-- no run and no listing, which give no blocks, is among them
abbrev pub NoRun : List Action → Type 0
NoRun [] = Unit {0}
NoRun (called (stepped r) ∷ acts) = NoRun acts
NoRun (called (traced old new r) ∷ acts) = NoRun acts
NoRun (called (ran q) ∷ acts) = ⊥
NoRun (excluded e ∷ acts) = NoRun acts
NoRun (listed old new r ∷ acts) = ⊥

-- ---- the solutions that they show, each as an array of 32 numbers
unfoldable pub solution_in : Verdict → List (List ℤ)
solution_in verdict.GoOn = []
solution_in verdict.NoSolution = []
solution_in verdict.OutOfBudget = []
solution_in (verdict.Solution values) = values ∷ []

unfoldable pub solutions_in : Result Ran Refusal → List (List ℤ)
solutions_in (Ok u) = solution_in u.verdict
solutions_in (Err e) = []

-- those that a listing strikes out: so many rows at the start of its buffer, a number for each variable
unfoldable pub rows_of : List ℤ → Result Listed Refusal → List Point
rows_of new (Ok l) = parts_at l.last.state.n l.struck new
rows_of new (Err e) = []

unfoldable pub shown_by : Action → List (List ℤ)
shown_by (called c) = solutions_in (told c)
shown_by (excluded e) = []
shown_by (listed old new r) = map padded (rows_of new r) ++ solutions_in (last_run r)

-- whether a solution stands shown: one was, and was not struck out since
unfoldable pub stands_at : Verdict → Bool → Bool
stands_at verdict.GoOn b = b
stands_at verdict.NoSolution b = b
stands_at verdict.OutOfBudget b = b
stands_at (verdict.Solution values) b = true

unfoldable pub stands_with : Result Ran Refusal → Bool → Bool
stands_with (Ok u) b = stands_at u.verdict b
stands_with (Err e) b = b

unfoldable pub stands_behind : Exclusion → Bool → Bool
stands_behind exclusion.Struck b = false
stands_behind exclusion.Ended b = b
stands_behind exclusion.Unsolved b = b

-- behind so many strikes
unfoldable pub stands_past : ℕ → Bool → Bool
stands_past zero b = b
stands_past (suc k) b = false

unfoldable pub stands_after : Action → Bool → Bool
stands_after (called c) b = stands_with (told c) b
stands_after (excluded (Ok e)) b = stands_behind e.answer b
stands_after (excluded (Err e)) b = b
stands_after (listed old new r) b = stands_with (last_run r) (stands_past (struck_of r) b)

unfoldable pub stands : List Action → Bool
stands [] = false
stands (a ∷ acts) = stands_after a (stands acts)

-- the solutions shown, in order; one that still stands is not shown anew. A listing where one stands shows that one alone (`ListAfter.marked`)
unfoldable pub shown : List Action → List (List ℤ)
shown [] = []
shown (a ∷ acts) = shown acts ++ cond (stands acts) [] (shown_by a)

-- how many were struck out
unfoldable pub strikes_in : Exclusion → ℕ
strikes_in exclusion.Struck = 1
strikes_in exclusion.Ended = 0
strikes_in exclusion.Unsolved = 0

unfoldable pub strikes_by : Action → ℕ
strikes_by (called c) = 0
strikes_by (excluded (Ok e)) = strikes_in e.answer
strikes_by (excluded (Err e)) = 0
strikes_by (listed old new r) = struck_of r

unfoldable pub strikes : List Action → ℕ
strikes [] = 0
strikes (a ∷ acts) = strikes_by a + strikes acts

-- ---- N5
-- how many turns a call may take on a state: a run at most one more than the budget has left
unfoldable pub turns_left : model.Search → ℕ
turns_left s = suc (s.budget - s.conflicts)

unfoldable pub turns_in : Call → model.Search → ℕ
turns_in (stepped r) s = 1
turns_in (traced old new r) s = length old / block_length
turns_in (ran q) s = turns_left s

-- the bounds that lines set, those of spent turns aside: in a run and k more, each after a strike
unfoldable pub set_in_runs : ℕ → model.Search → ℕ
set_in_runs zero s = bounds_set (turns_left s) s
set_in_runs (suc k) s = bounds_set (turns_left s) s + set_in_runs k (exclude (run s).state).state

-- in an action on a state
unfoldable pub set_by : Action → model.Search → ℕ
set_by (called c) s = bounds_set (turns_in c s) s
set_by (excluded e) s = 0
set_by (listed old new r) s = set_in_runs (struck_of r) s

-- a call that is refused takes no turn
unfoldable pub set_in : Search → List Action → ℕ
set_in s [] = 0
set_in s (a ∷ acts) = cond (admitted (view (state_after s acts))) (set_by a (view (state_after s acts))) 0 + set_in s acts

-- the count is within its limit, or has passed it: then a call is refused
abbrev pub Within : Search → Type 0
Within x = x.propagations ≤ max_propagations

abbrev pub Beyond : Search → Type 0
Beyond x = max_propagations < x.propagations

-- enough budget, or few enough dead ends and strikes for all hi − lo, for every count to stay within the limit
abbrev pub Modest : Problem → Search → List Action → Type 0
Modest p s acts = (points p ≤ p.budget) ⊎ (suc ((state_after s acts).conflicts + strikes acts) * slack p.domain ≤ max_propagations)

-- ---- a list kept up: a strike where a solution stands, else a step, a run, a listing, or a trace with room for a block
abbrev pub Turns : Call → Type 0
Turns (stepped r) = Unit {0}
Turns (traced old new r) = 0 < length old / block_length
Turns (ran q) = Unit {0}

abbrev pub Due : Bool → Action → Type 0
Due true (called c) = ⊥
Due true (excluded e) = Unit {0}
Due true (listed old new r) = ⊥
Due false (called c) = Turns c
Due false (excluded e) = ⊥
Due false (listed old new r) = Unit {0}

-- it ends with 'ended', 'none', 'spent' or a refusal
abbrev pub Closes : Result Ran Refusal → Type 0
Closes (Ok u) = (u.verdict ≡ verdict.NoSolution) ⊎ (u.verdict ≡ verdict.OutOfBudget)
Closes (Err e) = Unit {0}

abbrev pub Ends : Action → Type 0
Ends (called c) = Closes (told c)
Ends (excluded (Ok e)) = e.answer ≡ exclusion.Ended
Ends (excluded (Err e)) = Unit {0}
Ends (listed old new r) = Closes (last_run r)

abbrev pub KeptUp : List Action → Type 0
KeptUp [] = Unit {0}
KeptUp (a ∷ acts) = Due (stands acts) a × ¬ (Ends a) × KeptUp acts

-- ---- the claims
-- of every list of calls from s
pub record Lists (p : Problem) (s : Search) (acts : List Action) : Type 0 where
  -- the solutions shown are the first of all solutions in dictionary order; those shown were struck out, but for one that stands
  pub prefix : shown acts ≡ map padded (take (length (shown acts)) (all_solutions p))
  pub one-stands : length (shown acts) ≡ strikes acts + cond (stands acts) 1 0
  -- the count is the number of blocks given so far where no run and no listing is among the calls
  pub carried : NoRun acts → (state_after s acts).conflicts ≡ length (blocks_of acts)
  -- dead ends plus solutions shown, those struck out among them, are at most the number of points
  pub bounded : (state_after s acts).conflicts + length (shown acts) ≤ points p
  -- N5's count is the number of bounds that lines set in the turns that were not taken back, and at most (dead ends + struck out + 1) times the sum of all
  -- hi − lo, the domain's slack; with a budget of at least the points, or while that product is within its limit, so is the count, and no call is refused
  pub tallied : (state_after s acts).propagations ≡ set_in s acts
  pub creeping : (state_after s acts).propagations ≤ suc ((state_after s acts).conflicts + strikes acts) * slack p.domain
  pub within : Modest p s acts → Within (state_after s acts)
  -- every solution, one struck out too, meets every cut in the blocks
  pub cuts : (x : Point) → Solution p x → MeetsCuts (variables p) x (blocks_of acts)
  -- a list that is kept up ends
  pub ends : KeptUp acts → length acts < 2 * points p

-- the action says q's verdict, values and counts again, and strikes nothing out
abbrev pub Again : Ran → Result Ran Refusal → Type 0
Again q (Ok u) = SameAnswer u q × SameCounts u q
Again q (Err e) = ⊥

abbrev pub SaysAgain : Ran → Action → Type 0
SaysAgain q (called c) = Again q (told c)
SaysAgain q (excluded e) = ⊥
SaysAgain q (listed old new r) = Again q (last_run r) × (struck_of r ≡ 0)

-- of the answer q with which the action a ends, after the calls acts: that of a step, a trace or a run, or that of a listing's last run
pub record SaysAfter (p : Problem) (acts : List Action) (a : Action) (q : Ran) : Type 0 where
  -- however often a solution is shown: after k strikes it is the one at position k, counted from 0
  pub position : (values : List ℤ) → q.verdict ≡ verdict.Solution values → (v : Point) × (values ≡ padded v) × (get_elem? (all_solutions p) (strikes (a ∷ acts)) ≡ some v)
  pub counted : (q.count ≡ q.state.conflicts) × (q.propagations ≡ q.state.propagations)
  -- 'none', 'spent' and a solution are said again until a strike
  pub again : ¬ (q.verdict ≡ verdict.GoOn) → Within q.state → (d : Action) → Due false d → Does q.state d → SaysAgain q d
  -- with 'none' every solution has been shown; with a budget of at least the points it never says 'spent'
  pub complete : q.verdict ≡ verdict.NoSolution → shown (a ∷ acts) ≡ map padded (all_solutions p)
  pub enough : points p ≤ p.budget → ¬ (q.verdict ≡ verdict.OutOfBudget)

-- of what the action a on state x gives in the end, q
pub record TurnAfter (p : Problem) (x : Search) (acts : List Action) (a : Action) (q : Result Ran Refusal) : Type 0 where
  -- it is refused exactly where N5's count has passed its limit
  pub taken : (q ≡ Err InvalidSearch) ↔ Beyond x
  pub answered : Within x → (u : Ran) × (q ≡ Ok u) × SaysAfter p acts a u

-- of a listing
pub record ListAfter (p : Problem) (x : Search) (acts : List Action) (old new : List ℤ) (r : Result Listed Refusal) : Type 0 where
  -- its last run, which ends with a verdict, unless it is refused
  pub last : TurnAfter p x acts (listed old new r) (last_run r)
  pub ended : (u : Ran) → last_run r ≡ Ok u → ¬ (u.verdict ≡ verdict.GoOn)
  -- where a solution stands, none is struck out; else a solution ends it only where there is no room left, where every solution has been shown, or where
  -- N5's count has passed its limit, so that a strike would be refused
  pub marked : stands acts ≡ true → struck_of r ≡ 0
  pub full : stands acts ≡ false → (u : Ran) (values : List ℤ) → last_run r ≡ Ok u → u.verdict ≡ verdict.Solution values →
      (struck_of r ≡ length old / variables p) ⊎ ((shown (listed old new r ∷ acts) ≡ map padded (all_solutions p)) ⊎ Beyond u.state)
  -- row j of the buffer is the solution at position k + j, where k were struck out before; the buffer's other numbers stay
  pub rows : (j : ℕ) → j < struck_of r → get_elem? (all_solutions p) (strikes acts + j) ≡ some (take (variables p) (drop (variables p * j) new))
  pub rest : drop (variables p * struck_of r) new ≡ drop (variables p * struck_of r) old
  pub inside : variables p * struck_of r ≤ length old
  pub long : length new ≡ length old
  pub wide : (state_of x (listed old new r)).n ≡ variables p

-- of a strike on state x
pub record StrikeAfter (p : Problem) (x : Search) (acts : List Action) (e : Result Excluded Refusal) : Type 0 where
  -- it is refused exactly where N5's count has passed its limit
  pub taken : (e ≡ Err InvalidSearch) ↔ Beyond x
  pub answered : Within x → (u : Excluded) × (e ≡ Ok u) × (stands acts ≡ false → u.answer ≡ exclusion.Unsolved)
  pub complete : (u : Excluded) → e ≡ Ok u → u.answer ≡ exclusion.Ended → shown (excluded e ∷ acts) ≡ map padded (all_solutions p)

-- of all lists of calls from the state of one opening
pub record ListingOf (p : Problem) (s : Search) : Type 0 where
  pub lists : (acts : List Action) → DoneFrom s acts → Lists p s acts
  pub turn : (acts : List Action) (c : Call) → DoneFrom s (called c ∷ acts) → TurnAfter p (state_after s acts) acts (called c) (told c)
  pub strike : (acts : List Action) (e : Result Excluded Refusal) → DoneFrom s (excluded e ∷ acts) → StrikeAfter p (state_after s acts) acts e
  pub list : (acts : List Action) (old new : List ℤ) (r : Result Listed Refusal) → DoneFrom s (listed old new r ∷ acts) → ListAfter p (state_after s acts) acts old new r

-- of one opening: it is not refused
pub record ListingFrom (p : Problem) (o : Result Search Refusal) : Type 0 where
  pub state : Search
  pub accepted : o ≡ Ok state
  pub listing : ListingOf p state

pub record ListingsHoldFrom : Type 0 where
  pub opening : (s : Source) → Fine s → (o : Result Search Refusal) → OpensFrom s o → ListingFrom (problem_from s) o
