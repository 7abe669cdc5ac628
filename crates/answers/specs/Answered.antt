-- What turns repeated ask of any state, and the answer to a caller from where they end.
use Rattle.std.specs.Prelude.{ℕ, ◌*◌, ◌≤◌, Bool, true, List, ◌≡◌, ℤ, get_or, length}
use Rattle.model_files.specs.Bytes.{block_length}
use Rattle.model_problems.specs.Ranges.{max_propagations}
use Rattle.layout.specs.Rows.{number_in}
use Rattle.fields.specs.Fields.{room, filled}
use Rattle.validity.specs.Valid.{Valid}
use Rattle.state.specs.View.{no_level, view}
use Rattle.state.specs.declared.Search.{Search}
use Rattle.turns.specs.declared.Advanced.{Advanced}
use Rattle.turns.specs.declared.Ending.{Ending}
use Rattle.turns.specs.declared.Ending.TheVariants as ending
use Rattle.answers.specs.declared.Verdict.{Verdict}
use Rattle.answers.specs.declared.Verdict.TheVariants.{GoOn, NoSolution, OutOfBudget, Solution}
use Rattle.answers.specs.declared.Ran.{Ran}

-- a valid state, N5's count within its limit, room for the blocks that are kept, and for the solutions that are struck out
pub record Proceeds (s : Search) (limit : ℕ) (keep : Bool) (many : ℕ) (buffer : List ℕ) (list : List ℤ) : Type 0 where
  pub valid : Valid (view s)
  pub few : s.propagations ≤ max_propagations
  pub kept : keep ≡ true → block_length * limit ≤ length buffer
  pub apart : keep ≡ true → many ≡ 0
  pub roomy : s.n * many ≤ length list

-- the verdict where the turns end; a solution's values are the lower bounds of the deepest level, with zeros past them
unfoldable pub case_of : Ending → Search → Verdict
case_of ending.GoOn s = GoOn
case_of ending.NoSolution s = NoSolution
case_of ending.OutOfBudget s = OutOfBudget
case_of ending.Solution s = Solution (filled (number_in (get_or s.levels s.depth no_level).lower) s.n room)

unfoldable pub answered : Advanced → Ran
answered a = record { verdict = case_of a.ending a.state; count = a.state.conflicts; propagations = a.state.propagations; state = a.state }
