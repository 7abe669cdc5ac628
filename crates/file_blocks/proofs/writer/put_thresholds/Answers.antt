use Rattle.std.proofs.Common.{rules}
use Rattle.block.proofs.Placing.{none-placed}
use Rattle.file_blocks.proofs.Writing.{threshold-room, thresholds-more, fields-end}
use Rattle.file_blocks.proofs.writer.put_thresholds.Goals as goal

pub loop-i-init : goal.loop-i-init
loop-i-init c = search (rules, none-placed)

pub put_i32-requires : goal.put_i32-requires
put_i32-requires c = search (rules, threshold-room)

pub loop-i-preserved : goal.loop-i-preserved
loop-i-preserved c = search (rules, thresholds-more)

pub returns : goal.returns
returns c = search (rules, fields-end)
