-- `bits::masks::first` meets its contract. Assumes nothing.
use native.Mathlib.Omega.{arith}
use lib.Count.{trailing_le}
use Rattle.bits.proofs.Bits.{first-set}
use Rattle.bits.proofs.masks.first.Goals as goal

pub overflow_cast-result : goal.overflow_cast-result
overflow_cast-result c = omega (arith, trailing_le 64 c.args.mask)

pub returns : goal.returns
returns c = first-set 64 c.args.mask c.requires c.ranges.mask.fits
