use Rattle.std.proofs.Common.{refl, ◌*◌, ◌∙◌, arith}
use Rattle.block.proofs.Reading.{u32-is}
use Rattle.block.proofs.Checking.{sum-none, sum-next, sum-all}
use Rattle.block.proofs.check.checksum.Goals as goal

pub loop-w-init : goal.loop-w-init
loop-w-init c = sum-none c.args.b.now c.args.k _ refl

pub loop-w-preserved : goal.loop-w-preserved
loop-w-preserved c =
    let b = c.args.b.now in
    let w = c.loop-w.w in
    sum-next b c.args.k w _ _ _ c.loop-w.invariant (c.from_le_bytes-total.ensures ∙ u32-is b c.bytes_at.result (4 * w) c.bytes_at.ensures) refl

pub returns : goal.returns
returns c = sum-all c.args.b.now c.args.k c.loop-w.w _ (omega arith) (omega arith) c.loop-w.invariant
