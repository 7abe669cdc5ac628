-- `derivation::resolving::combine` meets its contract: the first i numbers are sums of two products. Assumes nothing.
use Rattle.std.proofs.Common.{◌≡◌, length}
use Rattle.layout.specs.Rows.{row_length}
use Rattle.derivation.proofs.ResolvingLaws.{AreMixed}
use Rattle.derivation.proofs.resolving.combine.Given as goal

abbrev pub invariant-loop-i : goal.invariant-loop-i
invariant-loop-i l = (length l.r ≡ row_length) × AreMixed l.s l.t l.f l.j l.i l.r
