-- `bits::masks::mask_where` meets its contract: the mask is that of the numbers passed. Assumes nothing.
use mathlib.Core.Bool.{false}
use Rattle.bits.proofs.Bits.{Covers}
use Rattle.bits.proofs.masks.mask_where.Given as goal

abbrev pub invariant-loop-i : goal.invariant-loop-i
invariant-loop-i g l = Covers (λ k. goal.F-post g l.test k false) l.count l.i l.mask
