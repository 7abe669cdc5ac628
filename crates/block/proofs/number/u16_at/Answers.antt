use Rattle.std.proofs.Common.{◌∙◌, arith}
use Rattle.block.proofs.Reading.{u16-is}
use Rattle.block.proofs.number.u16_at.Goals as goal

pub returns : goal.returns
returns c = (c.from.ensures ∙ c.from_le_bytes.ensures ∙ u16-is c.args.s.now c.bytes_at.result c.args.i c.bytes_at.ensures, omega arith)
