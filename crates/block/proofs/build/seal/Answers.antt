use Rattle.std.proofs.Common.{rules}
use Rattle.block.proofs.Sealing.{sealed-by}
use Rattle.block.proofs.build.seal.Goals as goal

pub returns : goal.returns
returns c = search (rules, sealed-by)
