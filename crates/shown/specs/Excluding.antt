-- What striking out a solution shows: N4's answer, and the state.
use Rattle.std.specs.Prelude.{Result}
use Rattle.std.proofs.Math.Option.{Option, none, some}
use Rattle.model_problems.specs.Problem as answer
use Rattle.model_walk.specs.Search as model
use Rattle.model_walk.specs.Exclude.{Exclusion as ModelExclusion, struck, ended, unsolved, Excluded as ModelExcluded, exclude_call}
use Rattle.problem.specs.declared.Refusal.{Refusal}
use Rattle.problem.specs.Answer.{seen_by, shown_by}
use Rattle.state.specs.View.{view}
use Rattle.state.specs.declared.Search.{Search}
use Rattle.shown.specs.declared.Exclusion.{Exclusion}
use Rattle.shown.specs.declared.Exclusion.TheVariants.{Struck, Ended, Unsolved}
use Rattle.shown.specs.declared.Excluded.{Excluded}

-- ---- what a caller sees
pub record SeenExclusion : Type 0 where
  -- N4's answer
  pub answer : ModelExclusion
  -- the state through its view; and where nothing changes, whole
  pub state : model.Search
  pub whole : Option Search

-- N4's answer for each case
unfoldable pub exclusion_of : Exclusion → ModelExclusion
exclusion_of Struck = struck
exclusion_of Ended = ended
exclusion_of Unsolved = unsolved

-- only a solution struck out changes the state
unfoldable pub whole_in : ModelExclusion → Search → Option Search
whole_in struck s = none
whole_in ended s = some s
whole_in unsolved s = some s

unfoldable pub seen_exclusion : Excluded → SeenExclusion
seen_exclusion r = let e = exclusion_of r.answer in record { answer = e; state = view r.state; whole = whole_in e r.state }

-- a refusal shows its number alone
unfoldable pub seen_excluded : Result Excluded Refusal → answer.Result SeenExclusion
seen_excluded r = seen_by seen_exclusion r

-- ---- what N4's answer shows
unfoldable pub shown_exclusion : Search → ModelExcluded → SeenExclusion
shown_exclusion given e = record { answer = e.answer; state = e.state; whole = whole_in e.answer given }

unfoldable pub exclude_seen : Search → answer.Result SeenExclusion
exclude_seen s = shown_by (shown_exclusion s) (exclude_call (view s))
