-- `level_conditions::nesting::is_decision_valid` meets its contract. Assumes nothing.
use borrow.Author.Rules.{rules}
use Rattle.layout.proofs.Tests.{equal-bits}
use Rattle.level_conditions.proofs.Decision.{decided}
use Rattle.level_conditions.proofs.nesting.is_decision_valid.Goals as goal

pub returns-then-l-i : goal.returns-then-l-i
returns-then-l-i c =
    let l = c.args.l.now in
    let outer = c.args.outer.now in
    let tests = decided c.args.n l.decided l.lower l.upper outer.lower outer.upper in
    search (rules, equal-bits)

pub returns-else-l-i : goal.returns-else-l-i
returns-else-l-i c =
    let l = c.args.l.now in
    let outer = c.args.outer.now in
    let tests = decided c.args.n l.decided l.lower l.upper outer.lower outer.upper in
    search (rules, equal-bits)
