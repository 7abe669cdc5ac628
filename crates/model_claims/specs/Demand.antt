-- Demand 3: what is claimed of every list of turns from a fresh opening of an acceptable problem, and so of an accepted file.
use Rattle.std.specs.Prelude.{ℕ, zero, suc, ◌*◌, ◌≤◌, ◌<◌, true, List, [], ◌∷◌, ◌++◌, ◌⊎◌, ◌↔◌, ◌≡◌, length}
use Rattle.model_problems.specs.Problem.{Problem, variables, Result, ok, error}
use Rattle.model_files.specs.Bytes.{Bytes}
use Rattle.model_files.specs.File.{read_error, problem_in}
use Rattle.model_walk.specs.Search.{Search, open_problem, open_file}
use Rattle.model_files.specs.Journal.{cut_in}
use Rattle.model_walk.specs.Move.{slack}
use Rattle.model_walk.specs.Validity.{admitted}
use Rattle.model_walk.specs.Step.{Verdict, go_on, no_solution, out_of_budget, solution, Outcome, block_in, step, run, step_call}
use Rattle.model_walk.specs.Trace.{Trace, ending_with, advance}
use Rattle.model_walk.specs.Propagations.{bounds_set}
use Rattle.model_acceptance.specs.Acceptable.{Acceptable, open_given}
use Rattle.model_problems.specs.Points.{Point, Inside, Allowed, all_points, points, Meets, Solution, First}

-- ---- a list of turns, each on the walk that the one before returned
-- the walk after a call: a refusal leaves it as it was
unfoldable pub after : Search → Result Outcome → Search
after s (ok o) = o.state
after s (error e) = s

unfoldable pub state_after : ℕ → Search → Search
state_after zero s = s
state_after (suc k) s = state_after k (after s (step_call s))

-- the answer of turn k, counted from 0
unfoldable pub answer_at : ℕ → Search → Result Outcome
answer_at k s = step_call (state_after k s)

-- ---- the 'journal': the blocks in the answers, in order
unfoldable pub blocks_in : Result Outcome → List (List ℕ)
blocks_in (ok o) = block_in o.block
blocks_in (error e) = []

-- of the first k turns
unfoldable pub journal : ℕ → Search → List (List ℕ)
journal zero s = []
journal (suc k) s = blocks_in (step_call s) ++ journal k (after s (step_call s))

-- k + 1 turns of the list taken by one call: their blocks, and the answer and walk of the last
unfoldable pub steps_together : ℕ → Search → Trace
steps_together k s = ending_with (step (state_after k s)) (journal (suc k) s) (state_after (suc k) s)

-- the point meets the cut, of n coefficients, in each block
abbrev pub MeetsCuts : ℕ → Point → List (List ℕ) → Type 0
MeetsCuts n v [] = Unit {0}
MeetsCuts n v (b ∷ bs) = Meets v (cut_in n b) × MeetsCuts n v bs

-- ---- membership
abbrev pub In : Point → List Point → Type 0
In v [] = ⊥
In v (u ∷ us) = (v ≡ u) ⊎ In v us

abbrev pub NoRepeats : List Point → Type 0
NoRepeats [] = Unit {0}
NoRepeats (v ∷ vs) = (In v vs → ⊥) × NoRepeats vs

-- `all_points` lists the points inside the limits, of allowed values, each once; `points` is its length
pub record Listed (p : Problem) : Type 0 where
  pub every : (v : Point) → (Inside v p.domain × Allowed p.thresholds v) ↔ In v (all_points p)
  pub once : NoRepeats (all_points p)

-- ---- verdicts and budgets
unfoldable pub with_budget : Problem → ℕ → Problem
with_budget p b = record { domain = p.domain; thresholds = p.thresholds; constraints = p.constraints; budget = b }

-- the verdict of a problem under a budget, in a file or not
unfoldable pub verdict_with : Problem → ℕ → Verdict
verdict_with p b = (run (open_problem (with_budget p b))).verdict

-- 'none' exactly when there is no solution, else the first solution
pub record Decides (p : Problem) (v : Verdict) : Type 0 where
  pub none-iff : (v ≡ no_solution) ↔ ((x : Point) → Solution p x → ⊥)
  pub else-first : ¬ (v ≡ no_solution) → (x : Point) × (v ≡ solution x) × First p x

-- equal, or one of them is 'spent'
abbrev pub Agree : Verdict → Verdict → Type 0
Agree u v = (u ≡ v) ⊎ ((u ≡ out_of_budget) ⊎ (v ≡ out_of_budget))

-- ---- the claim
pub record Steps (p : Problem) (s : Search) : Type 0 where
  pub listed : Listed p
  -- no call on a walk of the list is refused: no turn, and no run or trace
  pub accepted : (k : ℕ) → admitted (state_after k s) ≡ true
  pub taken : (k : ℕ) → answer_at k s ≡ ok (step (state_after k s))
  -- after each turn the count, in the answer and in the walk, is the number of journal blocks so far, and at most the number of points
  pub counted : (k : ℕ) → (step (state_after k s)).count ≡ length (journal (suc k) s)
  pub carried : (k : ℕ) → (state_after k s).conflicts ≡ length (journal k s)
  pub bounded : (k : ℕ) → length (journal k s) ≤ points p
  -- N5's count, in the answer and in the walk, is the number of bounds that lines set in the turns that were not taken back, and at most (dead ends + 1) times
  -- the sum of all hi − lo, the domain's slack
  pub propagated : (k : ℕ) → (step (state_after k s)).propagations ≡ bounds_set (suc k) s
  pub tallied : (k : ℕ) → (state_after k s).propagations ≡ bounds_set k s
  pub creeping : (k : ℕ) → (state_after k s).propagations ≤ suc (state_after k s).conflicts * slack p.domain
  -- every solution meets every cut in those blocks
  pub cuts : (k : ℕ) (x : Point) → Solution p x → MeetsCuts (variables p) x (journal k s)
  -- turns kept up reach a verdict, at turn `last`; every later turn gives that verdict and its counts, and leaves the walk as it is
  pub last : ℕ
  pub before : (k : ℕ) → k < last → (step (state_after k s)).verdict ≡ go_on
  pub reached : ¬ ((step (state_after last s)).verdict ≡ go_on)
  pub later : (k : ℕ) → last ≤ k →
      ((step (state_after k s)).verdict ≡ (step (state_after last s)).verdict) × ((step (state_after k s)).count ≡ (step (state_after last s)).count) × ((step (state_after k s)).propagations ≡ (step (state_after last s)).propagations)
  pub stays : (k : ℕ) → last < k → state_after k s ≡ state_after (suc last) s
  -- turns that one call takes are turns of the list
  pub together : (k t : ℕ) → advance (suc t) (state_after k s) ≡ steps_together t (state_after k s)
  -- a run, from any walk of the list, gives that verdict and its counts, and leaves the walk that the verdict leaves
  pub ran : (k : ℕ) →
      ((run (state_after k s)).verdict ≡ (step (state_after last s)).verdict) × ((run (state_after k s)).count ≡ (step (state_after last s)).count) ×
      ((run (state_after k s)).propagations ≡ (step (state_after last s)).propagations) × ((run (state_after k s)).state ≡ state_after (suc last) s)
  -- with a budget of at least the points the verdict is 'none' exactly when there is no solution, else the first solution; also where no file can hold so large a budget
  pub decides : points p ≤ p.budget → Decides p (run s).verdict
  pub decides-with : (b : ℕ) → points p ≤ b → Decides p (verdict_with p b)
  -- under every smaller budget it is the same verdict, or 'spent', whatever the number of points
  pub smaller : (b c : ℕ) → b ≤ c → (verdict_with p b ≡ verdict_with p c) ⊎ (verdict_with p b ≡ out_of_budget)
  pub own : (run s).verdict ≡ verdict_with p p.budget

-- Two problems with the same solutions. Where there is one, it tells that both have equally many variables.
abbrev pub SameSolutions : Problem → Problem → Type 0
SameSolutions p q = (x : Point) → Solution p x ↔ Solution q x

-- of every acceptable problem, in a file or not
pub record DemandOfProblems : Type 0 where
  -- a list starts at the walk that opening returns
  pub opens : (p : Problem) → Acceptable p → open_given p ≡ ok (open_problem p)
  pub steps : (p : Problem) → Acceptable p → Steps p (open_problem p)
  -- under every budget the verdict decides, or it is 'spent'; 'spent' only under a budget below the points
  pub right : (p : Problem) → Acceptable p → (b : ℕ) → Decides p (verdict_with p b) ⊎ ((verdict_with p b ≡ out_of_budget) × (b < points p))
  -- equal verdicts for equal solution sets, whatever the lines, the limits and the budgets, but for 'spent'
  pub same : (p q : Problem) → Acceptable p → Acceptable q → SameSolutions p q → (b c : ℕ) → Agree (verdict_with p b) (verdict_with q c)

-- An accepted file: none of the table's conditions on files holds.
pub record Accepted (f : List ℕ) : Type 0 where
  pub bytes : Bytes f
  pub fine : read_error f ≡ 0

-- of files: a case, since an accepted file has an acceptable problem
pub record Demand3 : Type 0 where
  pub acceptable : (f : List ℕ) → Accepted f → Acceptable (problem_in f)
  pub opens : (f : List ℕ) → Accepted f → open_file f ≡ ok (open_problem (problem_in f))
  pub steps : (f : List ℕ) → Accepted f → Steps (problem_in f) (open_problem (problem_in f))
  pub same : (f g : List ℕ) → Accepted f → Accepted g → SameSolutions (problem_in f) (problem_in g) → (b c : ℕ) → Agree (verdict_with (problem_in f) b) (verdict_with (problem_in g) c)
