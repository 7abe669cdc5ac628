-- `engine::walk::Walk::decide` meets its contract. Assumes nothing.
use native.Mathlib.Omega.{arith}
use Rattle.engine.proofs.Going.{fixed-same}
use Rattle.engine.proofs.Deciding.{deep, variable-fits, decidable, running-on, testable-on, carried-on, less-on}
use Rattle.engine.proofs.walk.Walk.decide.Goals as goal

pub offset_bounds-s-s : goal.offset_bounds-s-s
offset_bounds-s-s c = omega (arith, deep c.requires.stopped)

pub bounds-s-s : goal.bounds-s-s
bounds-s-s c = omega (arith, deep c.requires.stopped)

pub decide-first-requires : goal.decide-first-requires
decide-first-requires c =
    let k = c.kept-kept.ensures in
    rw (k.0, k.1.0, k.1.1.0, k.1.1.1) (decidable c.requires.stopped)

pub offset_bounds-given-i : goal.offset_bounds-given-i
offset_bounds-given-i c = let p = c.requires.stopped in omega (arith, variable-fits p, p.running.counts.few)

pub bounds-given-i : goal.bounds-given-i
bounds-given-i c = let p = c.requires.stopped in omega (arith, variable-fits p, p.running.counts.few)

pub first_divided-self-requires : goal.first_divided-self-requires
first_divided-self-requires c =
    let k = c.kept-kept.ensures in
    let e = c.decide-first.ensures in
    testable-on c.requires.stopped e.level (rw (k.0, k.1.0, k.1.1.0, k.1.1.1) at e.decided)

pub overflow_add-s : goal.overflow_add-s
overflow_add-s c = omega (arith, deep c.requires.stopped)

pub returns : goal.returns
returns c = λ base old keep now v tally p.
    let k = c.kept-kept.ensures in
    let e = c.decide-first.ensures in
    let d = rw (k.0, k.1.0, k.1.1.0, k.1.1.1) at e.decided in
    let l = rw (k.0, k.1.0, k.1.1.0, k.1.1.1) at e.level_saved in
    record {
      on = record { fixed = fixed-same p.fixed _ _ _ _; running = running-on p e.level d; carried = carried-on p e.level d c.first_divided-self.ensures l };
      same = record { left = p.same.left; done = p.same.done; struck = p.same.struck };
      less = less-on p e.level d;
    }
