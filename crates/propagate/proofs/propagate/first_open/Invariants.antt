-- `propagate::propagate::first_open` meets its contract: what is left to scan gives the whole scan's answer. Assumes nothing.
use mathlib.Core.Path.{◌≡◌}
use Rattle.model_walk.specs.Move.{first_open}
use Rattle.layout.specs.Rows.{box_of}
use Rattle.propagate.proofs.Scans.{open_from}
use Rattle.propagate.proofs.propagate.first_open.Given as goal

abbrev pub invariant-loop-i : goal.invariant-loop-i
invariant-loop-i l = first_open 0 (box_of l.n l.level.lower l.level.upper) ≡ open_from l.n l.level.lower l.level.upper l.i
