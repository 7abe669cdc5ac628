-- `record::Record::write` meets its contract. Assumes nothing.
use native.Mathlib.Omega.{arith}
use Rattle.model_files.specs.Journal.{record_bytes}
use Rattle.block.proofs.Sealing.{sealed-content}
use Rattle.record.proofs.Record.write.Goals as goal

pub returns : goal.returns
unfolding record_bytes
returns c = let p = c.args.self.now.counted in sealed-content _ c.seal.ensures c.put_content.ensures (omega arith) c.clear.ensures
