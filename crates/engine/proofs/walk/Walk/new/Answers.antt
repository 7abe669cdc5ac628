-- `engine::walk::Walk::new` meets its contract. Assumes nothing.
use borrow.Author.Rules.{rules}
use Rattle.state.proofs.Shape.{elements-kept}
use Rattle.engine.proofs.walk.Walk.new.Goals as goal

pub returns : goal.returns
returns c =
    let n = c.new.ensures in
    record { is = rw c.whole-level.ensures.0; room = n.room; gones = n.gones; counts = n.counts; levels_long = search (rules, elements-kept); whole = c.whole-level.ensures.1 }
