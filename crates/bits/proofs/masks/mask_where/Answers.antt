-- `bits::masks::mask_where` meets its contract: the mask is that of the numbers passed. Assumes nothing.
use Rattle.bits.proofs.Bits.{covers_more}
use Rattle.bits.proofs.masks.mask_where.Goals as goal

pub loop-i-preserved : goal.loop-i-preserved
loop-i-preserved g c = rw c.from.ensures (covers_more c.loop-i.invariant (λ e. rw e at c.test.ensures) c.loop-i-test.true c.loop-i.auto.i)
