-- `answers::proceed` meets its contract. Assumes nothing.
use borrow.Author.Rules.{rules}
use Rattle.answers.proofs.Proceeding.{room-undecided, no_step, none-again, solution-again}
use Rattle.answers.proofs.proceed.Goals as goal

pub returns-then-limit-eq0 : goal.returns-then-limit-eq0
returns-then-limit-eq0 c = rw c.at_rest.ensures (no_step _ _ _ _ _ _ (search rules))

pub returns-in-Undecided : goal.returns-in-Undecided
returns-in-Undecided c =
    let l = c in
    let a = l.args in
    rw (room-undecided a.s.status a.room (search rules)) l.advance.ensures

pub returns-in-Infeasible : goal.returns-in-Infeasible
returns-in-Infeasible c = rw c.at_rest-in-Infeasible.ensures (none-again _ _ _ _ _ _ (search rules) (search rules))

pub returns-in-Solved : goal.returns-in-Solved
returns-in-Solved c = rw c.at_rest-in-Solved.ensures (solution-again _ _ _ _ _ _ (search rules) (search rules))
