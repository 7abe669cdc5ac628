-- The loop of `turns::masks::marks`: the rows passed are marked.
use Rattle.turns.specs.Marking.{Marks}
use Rattle.turns.proofs.masks.marks.Given as goal

abbrev pub invariant-loop-p : goal.invariant-loop-p
invariant-loop-p l = Marks l.n l.from l.p l.rows l.masks
