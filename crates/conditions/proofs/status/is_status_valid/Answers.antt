-- `conditions::status::is_status_valid` meets its contract. Assumes nothing.
use borrow.Author.Rules.{rules}
use Rattle.state.specs.View.{status_of}
use Rattle.conditions.specs.Marks.{mark_valid}
use Rattle.conditions.proofs.status.is_status_valid.Goals as goal

pub returns-in-Undecided : goal.returns-in-Undecided
unfolding mark_valid status_of
returns-in-Undecided c = search rules

pub returns-in-Infeasible : goal.returns-in-Infeasible
unfolding mark_valid status_of
returns-in-Infeasible c = search rules

pub returns-then-not-is_any_open : goal.returns-then-not-is_any_open
unfolding mark_valid status_of
returns-then-not-is_any_open c = search rules

pub returns-else-not-is_any_open : goal.returns-else-not-is_any_open
unfolding mark_valid status_of
returns-else-not-is_any_open c = search rules
