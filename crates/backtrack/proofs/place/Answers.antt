-- `backtrack::place` meets its contract. Assumes nothing.
use mathlib.Core.Path.{sym}
use Rattle.state.proofs.Moved.{place-less, place-more}
use Rattle.backtrack.proofs.place.Goals as goal

pub returns-then-j-m : goal.returns-then-j-m
returns-then-j-m c = sym (place-less _ _ _ c.if-j-m.true)

pub returns-else-j-m : goal.returns-else-j-m
returns-else-j-m c = sym (place-more _ _ _ c.if-j-m.false)
