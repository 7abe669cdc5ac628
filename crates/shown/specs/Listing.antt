-- What a listing shows: N4's answer, and the buffer's numbers.
use Rattle.std.specs.Prelude.{ℕ, List, ℤ, length, Result}
use Rattle.model_problems.specs.Problem as answer
use Rattle.model_walk.specs.Step.{Outcome}
use Rattle.model_walk.specs.Listing.{Listing, list_call}
use Rattle.problem.specs.declared.Refusal.{Refusal}
use Rattle.problem.specs.Answer.{seen_by, shown_by}
use Rattle.state.specs.View.{view}
use Rattle.state.specs.declared.Search.{Search}
use Rattle.answers.specs.declared.Listed.{Listed}
use Rattle.shown.specs.Seen.{Seen, seen, shown}

-- ---- what a caller sees
pub record SeenList : Type 0 where
  -- how many solutions were struck out
  pub struck : ℕ
  -- what the run after the last of them shows
  pub last : Seen

-- a refusal shows its number alone; and the numbers that hold the values, whole
pub record SeenListing : Type 0 where
  pub answer : answer.Result SeenList
  pub numbers : List ℤ

unfoldable pub seen_list : Listed → SeenList
seen_list r = record { struck = r.struck; last = seen r.last }

unfoldable pub seen_listed : Result Listed Refusal → List ℤ → SeenListing
seen_listed r numbers = record { answer = seen_by seen_list r; numbers = numbers }

-- ---- what N4's answer shows
unfoldable pub shown_list : Listing Outcome → SeenList
shown_list l = record { struck = length l.struck; last = shown l.last }

unfoldable pub list_seen : Search → List ℤ → SeenListing
list_seen s buffer = let l = list_call (view s) buffer in record { answer = shown_by shown_list l.answer; numbers = l.buffer }
