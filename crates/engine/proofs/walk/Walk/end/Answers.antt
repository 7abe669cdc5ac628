-- `engine::walk::Walk::end` meets its contract. Assumes nothing.
use native.Mathlib.Omega.{arith}
use Rattle.turns.proofs.Starting.{view-restored}
use Rattle.engine.proofs.walk.Walk.end.Goals as goal

pub returns : goal.returns
returns c =
    let e = c.requires in
    let f = e.of_state in
    rw (f.variables, f.inputs, f.budget, f.thresholds, f.divisors) (view-restored _ _ _ _ _ _ _ _ _ _ _ _ _ _ _ _ e.apart c.put_rows.ensures e.inputs (omega (arith, e.shallow, e.levels_long)))
