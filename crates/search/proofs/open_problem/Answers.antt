-- `search::open_problem` meets its contract. Assumes nothing.
use mathlib.Core.Path.{◌∙◌}
use Rattle.std.proofs.lemmas.Result.{err_from_is_err_and}
use Rattle.shown.proofs.Openings.{can-begin, problem-opened, problem-refused}
use Rattle.search.proofs.open_problem.Goals as goal

pub returns-in_err-check : goal.returns-in_err-check
returns-in_err-check c =
    let p = err_from_is_err_and c.from_residual.result c.from_residual.ensures.1 in
    rw (p.1, p.2) (problem-refused _ _ c.in_err-check.ensures)

pub begin-requires : goal.begin-requires
begin-requires c = can-begin _ c.in_ok-check.ensures

pub returns : goal.returns
returns c = c.begin.ensures ∙ problem-opened _ c.in_ok-check.ensures
