use Rattle.std.proofs.Common.{rules, arith}
use Rattle.block.proofs.Placing.{none-placed}
use Rattle.file_blocks.proofs.Writing.{lower-room, upper-room, bounds-more, fields-end}
use Rattle.file_blocks.proofs.writer.put_bounds.Goals as goal

pub loop-i-init : goal.loop-i-init
loop-i-init c = search (rules, none-placed)

pub put_i32-requires : goal.put_i32-requires
put_i32-requires c = search (rules, lower-room)

pub put_i32-requires-in-loop-i : goal.put_i32-requires-in-loop-i
put_i32-requires-in-loop-i c = (search rules, upper-room _ _ c.loop-i-test.true c.requires.1 (search rules))

pub loop-i-preserved : goal.loop-i-preserved
loop-i-preserved c = (
  omega (arith, c.put_i32-in-loop-i.auto.s, c.put_i32.auto.s, c.loop-i.invariant.0),
  bounds-more _ _
      c.loop-i-test.true
      _
      _
      c.bound_offset.ensures.0
      c.bound_offset-in-loop-i.ensures.0
      (search rules)
      (search rules)
      c.loop-i.invariant.1
      c.put_i32.ensures
      c.put_i32-in-loop-i.ensures,
)

pub returns : goal.returns
returns c = search (rules, fields-end)
