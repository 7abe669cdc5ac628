-- `bits::masks::rest` meets its contract. Assumes nothing.
use Rattle.bits.proofs.Bits.{rest-set}
use Rattle.bits.proofs.masks.rest.Goals as goal

pub returns : goal.returns
returns c = rest-set c.args.mask c.requires
