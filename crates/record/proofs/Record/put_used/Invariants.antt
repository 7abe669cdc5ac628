-- `record::Record::put_used` meets its contract: the fields before i are put. Assumes nothing.
use Prim.Native.Nat.{◌+◌, ◌*◌}
use Rattle.block.specs.Placed.{Placed}
use Rattle.record.specs.Written.{used_place, used_of}
use Rattle.record.proofs.Record.put_used.Given as goal

abbrev pub invariant-loop-i : goal.invariant-loop-i
invariant-loop-i l = Placed l.initial.out used_place (used_place + 4 * l.i) (used_of l.i l.self.used) l.out
