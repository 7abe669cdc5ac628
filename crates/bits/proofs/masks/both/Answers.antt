-- `bits::masks::both` meets its contract. Assumes nothing.
use lib.Bits.{and_le_l}
use Rattle.bits.proofs.Bits.{both_zero}
use Rattle.bits.proofs.masks.both.Goals as goal

pub returns : goal.returns
returns c = (and_le_l _ _, both_zero _ _)
