use Rattle.std.proofs.Common.{◌≡◌}
use Rattle.block.proofs.Checking.{sum_to}
use Rattle.block.proofs.check.checksum.Given as goal

abbrev pub invariant-loop-w : goal.invariant-loop-w
invariant-loop-w l = l.total ≡ sum_to l.b l.k l.w
