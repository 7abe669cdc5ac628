-- `engine::walk::Walk::propagate` meets its contract. Assumes nothing.
use mathlib.Core.Path.{refl}
use Rattle.turns.proofs.Rounds.{ready, gap-free, countable}
use Rattle.engine.proofs.walk.Walk.propagate.Goals as goal

pub propagate-stopped-requires : goal.propagate-stopped-requires
propagate-stopped-requires c =
    let u = c.requires.on in
    let r = u.running in
    let k = c.kept-kept.ensures in
    rw (k.0, k.1.0, k.1.1.0, k.1.1.1)
    (record {
      ready = (ready r, gap-free r);
      warned = (u.carried.falsified, u.carried.masks);
      apart = (r.apart, u.fixed.sorted.columns);
      upper_bound = countable r;
    })

pub returns : goal.returns
returns c = λ base old keep now u.
    let k = c.kept-kept.ensures in
    let e = rw (k.0, k.1.0, k.1.1.0, k.1.1.1) at c.propagate-stopped.ensures in
    let f = u.fixed.of_state in
    record {
      fixed = record { of_state = record { variables = f.variables; inputs = f.inputs; budget = f.budget; thresholds = f.thresholds; divisors = f.divisors }; sorted = u.fixed.sorted; unmarked = u.fixed.unmarked };
      running = u.running;
      carried = u.carried;
      answered = e.by_index;
      ready = e.ready_2.0;
      lengths = e.tracked.0;
      tracked = e.tracked.1;
      same = record { left = refl; done = refl; struck = refl };
    }
