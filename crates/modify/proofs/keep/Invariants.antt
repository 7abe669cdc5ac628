-- `modify::keep` meets its contract: what it has put in are those of the first j constraints that the mask keeps. Assumes nothing.
use Rattle.modify.proofs.Keeping.{Keeps}
use Rattle.modify.proofs.keep.Given as goal

abbrev pub invariant-loop-j : goal.invariant-loop-j
invariant-loop-j l = Keeps l.problem l.mask l.j l.smaller
