-- What is claimed of whoever calls `open` on an accepted file: the claims of Calls.antt and Listing.antt where the search starts from a file.
use Rattle.std.specs.Prelude.{ℕ, List, ◌⊎◌, ◌≡◌, ◌≤◌, Result, Ok}
use Rattle.model_files.specs.File.{problem_in}
use Rattle.model_walk.specs.Search.{open_file}
use Rattle.model_problems.specs.Points.{points}
use Rattle.model_claims.specs.Demand.{Accepted, SameSolutions, with_budget}
use Rattle.problem.specs.declared.Refusal.{Refusal}
use Rattle.state.specs.declared.Search.{Search}
use Rattle.shown.specs.Opening.{seen_opened}
use Rattle.answers.specs.declared.Ran.{Ran}
use Rattle.answers.specs.declared.Verdict.TheVariants as verdict
use Rattle.calls.specs.Calls.{Makes, ran, SameAnswer, OpeningFrom}
use Rattle.calls.specs.Listing.{ListingFrom}

-- what the contract of `open` says
abbrev pub Opens : List ℕ → Result Search Refusal → Type 0
Opens f o = seen_opened o ≡ open_file f

-- of one opening, all lists of calls from there, and each run
abbrev pub Opening : List ℕ → Result Search Refusal → Type 0
Opening f o = OpeningFrom (problem_in f) o

-- a run after an opening
pub record RunOf (f : List ℕ) (q : Ran) : Type 0 where
  pub fine : Accepted f
  pub opened : Search
  pub opens : Opens f (Ok opened)
  pub runs : Makes opened (ran (Ok q))

pub record CallsHold : Type 0 where
  pub opening : (f : List ℕ) → Accepted f → (o : Result Search Refusal) → Opens f o → Opening f o
  -- a smaller budget: the same answer, or 'spent', whatever the number of points
  pub smaller : (f g : List ℕ) (q u : Ran) → RunOf f q → RunOf g u → problem_in g ≡ with_budget (problem_in f) (problem_in g).budget →
      (problem_in g).budget ≤ (problem_in f).budget → SameAnswer u q ⊎ (u.verdict ≡ verdict.OutOfBudget)
  -- equal answers for equal solution sets, whatever the budgets, but for 'spent'
  pub same : (f g : List ℕ) (q u : Ran) → RunOf f q → RunOf g u → SameSolutions (problem_in f) (problem_in g) →
      SameAnswer q u ⊎ ((q.verdict ≡ verdict.OutOfBudget) ⊎ (u.verdict ≡ verdict.OutOfBudget))

-- with enough budget: at least the points
pub record WithEnough : Type 0 where
  -- the answer under another budget, smaller or larger, is that under one of at least the points, or 'spent'
  pub smaller : (f g : List ℕ) (q u : Ran) → RunOf f q → RunOf g u → problem_in g ≡ with_budget (problem_in f) (problem_in g).budget →
      points (problem_in f) ≤ (problem_in f).budget → SameAnswer u q ⊎ (u.verdict ≡ verdict.OutOfBudget)
  -- equal answers for equal solution sets
  pub same : (f g : List ℕ) (q u : Ran) → RunOf f q → RunOf g u → SameSolutions (problem_in f) (problem_in g) → points (problem_in f) ≤ (problem_in f).budget →
      points (problem_in g) ≤ (problem_in g).budget → SameAnswer q u

pub record ListingsHold : Type 0 where
  pub opening : (f : List ℕ) → Accepted f → (o : Result Search Refusal) → Opens f o → ListingFrom (problem_in f) o
