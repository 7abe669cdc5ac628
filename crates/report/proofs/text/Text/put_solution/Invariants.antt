use Prim.Native.Nat.{◌*◌}
use Rattle.report.specs.Room.{longest_value, Ends}
use Rattle.report.proofs.text.Text.put_solution.Given as goal

abbrev pub invariant-loop-value : goal.invariant-loop-value
invariant-loop-value g l = Ends (l.value-index * longest_value) l.initial.self.end l.self.end
