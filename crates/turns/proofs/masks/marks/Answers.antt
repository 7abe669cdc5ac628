-- `turns::masks::marks` meets its contract. Assumes nothing.
use Prim.Native.Nat.{◌+◌, ◌*◌}
use native.Mathlib.Omega.{arith}
use mathlib.Core.Path.{◌∙◌}
use borrow.Author.Count.{below_more}
use lib.ListN.{get_or, set, length-set}
use lib.Seq.{get_or-set_same, get_or-set_other}
use Rattle.layout.specs.Rows.{row_length}
use Rattle.bits.specs.Masks.{Mentions}
use Rattle.turns.proofs.masks.marks.Goals as goal

pub loop-p-preserved : goal.loop-p-preserved
loop-p-preserved c =
    let l = c.loop-p in
    let v = l.invariant in
    record {
      room = length-set l.masks l.p c.row_mask.result ∙ v.room;
      at =
          below_more (λ k. Mentions c.args.n c.args.rows.now (row_length * (c.args.from + k)) (get_or (set l.masks l.p c.row_mask.result) k 0)) l.p
          (λ k h. rw (get_or-set_other l.masks l.p k c.row_mask.result 0 (λ z. omega arith)) (v.at k h))
          (rw (get_or-set_same l.masks l.p c.row_mask.result 0 (omega (arith, v.room, c.requires.most))) c.row_mask.ensures);
    }
