-- `record::Record::put_content` meets its contract. Assumes nothing.
use Rattle.record.proofs.Putting.{content-placed}
use Rattle.record.proofs.Record.put_content.Goals as goal

pub returns : goal.returns
returns c = content-placed _ _ _ _ _ _ c.args.self.now.used c.put_u32.ensures c.put_head.ensures c.put_cut.ensures c.put_used.ensures
