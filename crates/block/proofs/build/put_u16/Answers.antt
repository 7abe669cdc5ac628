use Rattle.std.proofs.Common.{ap, take, ◌∙◌}
use Rattle.model_files.specs.Bytes.{u16_bytes}
use Rattle.block.proofs.Placing.{bytes-placed, length-u16, low-u16}
use Rattle.block.proofs.build.put_u16.Goals as goal

pub returns : goal.returns
returns c = let v = c.args.v in bytes-placed (u16_bytes v) (ap (take 2) c.to_le_bytes.ensures ∙ low-u16 v) (length-u16 v) c.put.ensures
