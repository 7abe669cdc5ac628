-- `engine::walk::Walk::strike_out` meets its contract. Assumes nothing.
use native.Mathlib.Omega.{arith}
use Rattle.engine.proofs.Striking.{deep, leaves, strikes}
use Rattle.engine.proofs.walk.Walk.strike_out.Goals as goal

pub offset_bounds-s-s : goal.offset_bounds-s-s
offset_bounds-s-s c = omega (arith, deep c.requires.way c.requires.spare)

pub bounds-s-s : goal.bounds-s-s
bounds-s-s c = omega (arith, deep c.requires.way c.requires.spare)

pub go_back-requires : goal.go_back-requires
go_back-requires c = leaves c.requires.way c.requires.spare

pub returns : goal.returns
returns c = λ base limit room list old keep now v tally u h. strikes u h c.put_values.ensures c.put_values.auto.solutions c.go_back.ensures
