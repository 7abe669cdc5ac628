use Rattle.std.proofs.Common.{ap, take, ◌∙◌}
use Rattle.model_files.specs.Bytes.{u32_bytes}
use Rattle.block.proofs.Placing.{bytes-placed, length-u32, low-u32}
use Rattle.block.proofs.build.put_u32.Goals as goal

pub returns : goal.returns
returns c = let v = c.args.v in bytes-placed (u32_bytes v) (ap (take 4) c.to_le_bytes.ensures ∙ low-u32 v) (length-u32 v) c.put.ensures
