-- What opening shows, of a file or of a problem in hand.
use Rattle.std.specs.Prelude.{Result}
use Rattle.model_problems.specs.Problem as model
use Rattle.model_walk.specs.Search as walk
use Rattle.problem.specs.declared.Problem.{Problem}
use Rattle.problem.specs.declared.Refusal.{Refusal}
use Rattle.problem.specs.Answer.{seen_by}
use Rattle.problem.specs.View.{problem_of}
use Rattle.state.specs.View.{view}
use Rattle.state.specs.declared.Search.{Search}

-- what was read or checked: the problem that its arrays say, or the number of the refusal
unfoldable pub found : Result Problem Refusal → model.Result model.Problem
found r = seen_by problem_of r

-- document 01's answer: the state through its view, or the number of the refusal
unfoldable pub seen_opened : Result Search Refusal → model.Result walk.Search
seen_opened r = seen_by view r
