use Rattle.std.proofs.Common.{rules, arith}
use Rattle.block.proofs.Placing.{none-placed}
use Rattle.fields.proofs.Writing.{number_bytes, number-back, numbers-more, numbers-end}
use Rattle.fields.proofs.writer.put_numbers.Goals as goal

pub loop-i-init : goal.loop-i-init
loop-i-init c = (search rules, none-placed (number_bytes c.args.row.now) _ 0)

pub put_i32-requires : goal.put_i32-requires
put_i32-requires c = (search rules, number-back _ _ c.loop-i.i (omega arith) c.requires.2 (search rules))

pub loop-i-preserved : goal.loop-i-preserved
loop-i-preserved c =
    (omega (arith, c.put_i32.auto.s, c.loop-i.invariant.0), numbers-more c.args.row.now c.loop-i.i _ c.number_offset.ensures (search rules) c.loop-i.invariant.1 c.put_i32.ensures)

pub returns : goal.returns
returns c = numbers-end c.args.n c.args.row.now c.loop-i.i (omega arith) (omega arith) c.loop-i.invariant.1
