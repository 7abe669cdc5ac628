-- What turns repeated give, as the model's trace.
use Rattle.std.specs.Prelude.{ℕ, zero, suc, ◌-◌, ◌*◌, ◌≤◌, Bool, true, false, List, ◌++◌, ◌≡◌, ℤ, length, drop}
use Rattle.model_files.specs.Bytes.{block_length}
use Rattle.model_walk.specs.Search as model
use Rattle.model_walk.specs.Step.{Verdict, go_on, no_solution, out_of_budget, solution, lowers}
use Rattle.model_walk.specs.Trace.{Trace, advance, joined}
use Rattle.model_problems.specs.Ranges.{max_propagations}
use Rattle.model_walk.specs.Exclude.{exclude_within}
use Rattle.model_problems.specs.Points.{Point}
use Rattle.model_walk.specs.Listing.{Listing, ends_with, goes_on}
use Rattle.validity.specs.Valid.{Valid}
use Rattle.state.specs.View.{view}
use Rattle.state.specs.declared.Search.{Search}
use Rattle.state.specs.declared.Status.TheVariants.{Undecided}
use Rattle.turns.specs.declared.Ending.{Ending}
use Rattle.turns.specs.declared.Ending.TheVariants.{GoOn, NoSolution, OutOfBudget, Solution}
use Rattle.turns.specs.declared.Advanced.{Advanced}

-- the verdict of an ending; a solution's values are the lower bounds of the deepest level
unfoldable pub verdict_of : Ending → model.Search → Verdict
verdict_of GoOn s = go_on
verdict_of NoSolution s = no_solution
verdict_of OutOfBudget s = out_of_budget
verdict_of Solution s = solution (lowers s.core.deepest.box)

-- what stands in the buffer: the blocks and then its old bytes, where they are kept
pub record Buffered (keep : Bool) (blocks : List (List ℕ)) (old now : List ℕ) : Type 0 where
  pub written : keep ≡ true → now ≡ joined blocks ++ drop (block_length * length blocks) old
  pub untouched : keep ≡ false → now ≡ old

unfoldable pub trace_of : Advanced → List (List ℕ) → Trace
trace_of r blocks =
    record {
      verdict = verdict_of r.ending (view r.state);
      count = r.state.conflicts;
      propagations = r.state.propagations;
      blocks = blocks;
      state = view r.state;
    }

-- turns, at most `limit` in all, with each solution struck out before the next, while there is room
unfoldable pub advance_over : ℕ → ℕ → model.Search → Listing Trace
advance_over zero limit s = ends_with (advance limit s)
advance_over (suc room) limit s =
    let t = advance limit s in
    let e = exclude_within t.state in
    goes_on t.verdict e.answer t (advance_over room (limit - length t.blocks) e.state)

-- from a state
pub record Advances (s : model.Search) (limit : ℕ) (keep : Bool) (room : ℕ) (r : Advanced) (old now : List ℕ) (list list₁ : List ℤ) : Type 0 where
  pub struck : List Point
  pub how_many : r.struck ≡ length struck
  pub blocks : List (List ℕ)
  pub many : r.blocks ≡ length blocks
  pub trace : record { struck = struck; last = trace_of r blocks } ≡ advance_over room limit s
  pub buffer : Buffered keep blocks old now
  pub listed : list₁ ≡ joined struck ++ drop (s.core.variables * length struck) list

-- what the loop asks: a valid state that is not marked, N5's count within its limit, room for the blocks that are kept, and for the solutions that are
-- struck out
pub record Starts (s : Search) (limit : ℕ) (keep : Bool) (room : ℕ) (buffer : List ℕ) (list : List ℤ) : Type 0 where
  pub valid : Valid (view s)
  pub unmarked : s.status ≡ Undecided
  pub few : s.propagations ≤ max_propagations
  pub kept : keep ≡ true → block_length * limit ≤ length buffer
  pub apart : keep ≡ true → room ≡ 0
  pub roomy : s.n * room ≤ length list
