-- `search::step` meets its contract. Assumes nothing.
use Rattle.std.proofs.lemmas.Result.{err_from_is_err_and}
use Rattle.shown.proofs.Showing.{no_block, step-given, step-refused}
use Rattle.search.proofs.step.Goals as goal

pub returns-in_err-t : goal.returns-in_err-t
unfolding no_block
returns-in_err-t c =
    let p = err_from_is_err_and c.from_residual.result c.from_residual.ensures.1 in
    rw (p.1, p.2) (step-refused _ _ _ c.in_err-t.ensures)

pub returns : goal.returns
unfolding no_block
returns c = rw c.then_some.ensures (step-given _ _ _ c.in_ok-t.ensures)
