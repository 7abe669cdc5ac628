use Prim.Native.Nat.{◌-◌}
use mathlib.Core.Path.{◌≡◌}
use lib.ListN.{length}
use Rattle.console.proofs.listing.print_listing.Given as goal

abbrev pub invariant-loop-struck : goal.invariant-loop-struck
invariant-loop-struck g l = length l.numbers ≡ 2048

abbrev pub decreases-loop-struck : goal.decreases-loop-struck
decreases-loop-struck g l = 4611686018427387904 - l.struck
