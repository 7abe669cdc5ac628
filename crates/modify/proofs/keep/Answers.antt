-- `modify::keep` meets its contract: what it has put in are those of the first j constraints that the mask keeps. Assumes nothing.
use Rattle.std.proofs.Common.{rules, arith}
use Rattle.layout.proofs.Elements.{number_read}
use Rattle.modify.proofs.Keeping.{keep-none, keep-end, keep-variables, keep-room, keep-skip, keep-more}
use Rattle.modify.proofs.keep.Goals as goal
use Rattle.modify.proofs.keep.Goals.{then-mask-j, else-mask-j}

pub loop-j-init : goal.loop-j-init
loop-j-init c = keep-none _ _ _ _

pub append-smaller-requires : goal.append-smaller-requires
append-smaller-requires c =
    let p = c.args.problem in
    let s = c.loop-j.smaller in
    let h = c.loop-j.invariant in
    (omega (arith, keep-variables p _ s c.loop-j.j h), omega (arith, keep-room p _ s c.loop-j.j h))

pub loop-j-preserved : goal.loop-j-preserved
loop-j-preserved c =
    let p = c.args.problem in
    let s = c.loop-j.smaller in
    let j = c.loop-j.j in
    let h = c.loop-j.invariant in
    elim c.if-mask-j.branch [
      | then-mask-j w ↦ rw w.smaller-is (keep-more p _ s j h _ _ _ w.if-mask-j.true w.copy_row-row.ensures.same (number_read p.divisors j (search rules)) w.append-smaller.ensures)
      | else-mask-j w ↦ rw w.smaller-is (keep-skip p _ s j h w.if-mask-j.false)
    ]

pub returns : goal.returns
returns c = keep-end c.args.problem _ c.loop-j.smaller c.loop-j.j c.loop-j.invariant (omega arith) (omega arith)
