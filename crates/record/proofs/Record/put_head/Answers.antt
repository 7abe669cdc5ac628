-- `record::Record::put_head` meets its contract. Assumes nothing.
use Rattle.block.proofs.Placing.{then}
use Rattle.record.proofs.Record.put_head.Goals as goal

pub returns : goal.returns
returns c = then c.put_u32.ensures (then c.put_u32-2.ensures (then c.put_u32-3.ensures (then c.put_u16.ensures c.put_u16-2.ensures)))
