-- `propagate::propagate::decide_or_finish` meets its contract. Assumes nothing.
use mathlib.Core.Path.{sym}
use Rattle.model_problems.specs.Lists.{with_default}
use Rattle.propagate.specs.Moves.{stop_of, open_of}
use Rattle.propagate.proofs.propagate.decide_or_finish.Goals as goal

pub returns-in-Some : goal.returns-in-Some
unfolding stop_of open_of with_default
returns-in-Some c = rw (sym c.in-Some.ensures)

pub returns-in-None : goal.returns-in-None
unfolding stop_of open_of with_default
returns-in-None c = rw (sym c.in-None.ensures)
