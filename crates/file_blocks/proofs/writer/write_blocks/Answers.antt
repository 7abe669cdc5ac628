use Rattle.std.proofs.Common.{◌∙◌, refl, ◌+◌, ◌*◌, rules, arith}
use Rattle.std.proofs.lemmas.List.Edits.{length-between}
use Rattle.layout.specs.Rows.{row_length}
use Rattle.file_blocks.proofs.Writing.{no_blocks, head-placed, row-passes, divisor-passes, blocks_more, file-written}
use Rattle.file_blocks.proofs.writer.write_blocks.Goals as goal

pub loop-j-init : goal.loop-j-init
loop-j-init c =
    let h = head-placed c.args.problem.now {s = c.args.buffer.now} c.range.ensures (omega arith) c.write_head.auto.head c.write_head.ensures in
    (omega (arith, h.0), refl, no_blocks _ _)

pub write_constraint-requires : goal.write_constraint-requires
write_constraint-requires c =
    let p = c.args.problem.now in
    let h = c.requires in
    let l = c.loop-j-test.true in
    let j = c.loop-j.j in
    let s = length-between p.constraints (row_length * j) (row_length * (j + 1)) (omega (arith, c.fits-problem)) in
    record {
      n_le_max_variables = (h.few-variables, omega arith, row-passes p j l _ refl h.few-variables h.coefficient-range, search rules);
      q_value = divisor-passes p j l (search rules) h.divisor_range;
    }

pub loop-j-preserved : goal.loop-j-preserved
loop-j-preserved c =
    let i = c.loop-j.invariant in
    let r = c.range-in-loop-j.ensures in
    let x =
    blocks_more c.args.problem.now c.loop-j.j c.loop-j-test.true (omega (arith, r.0), omega (arith, r.1, r.0)) _ refl c.requires.few-variables (search rules) i.0 c.write_constraint.auto.block c.write_constraint.ensures i.2 in
    (omega (arith, x.0, i.0), x.0 ∙ i.1, x.1)

pub returns : goal.returns
returns c =
    file-written c.args.problem.now c.loop-j.j c.loop-j-test.false (omega arith)
    (head-placed c.args.problem.now c.range.ensures (omega arith) c.write_head.auto.head c.write_head.ensures).1 c.loop-j.invariant.2
