-- `record::Record::put_coefficients` meets its contract: the fields before i are put. Assumes nothing.
use Prim.Native.Nat.{◌+◌, ◌*◌}
use Rattle.block.specs.Placed.{Placed}
use Rattle.record.specs.Written.{coefficients_place, coefficients_of}
use Rattle.record.proofs.Record.put_coefficients.Given as goal

abbrev pub invariant-loop-i : goal.invariant-loop-i
invariant-loop-i l = Placed l.initial.out coefficients_place (coefficients_place + 4 * l.i) (coefficients_of l.i l.self.cut) l.out
