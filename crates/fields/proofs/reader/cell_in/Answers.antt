use Rattle.std.proofs.Common.{◌+◌, ◌/◌, ◌∙◌, w64, to_z-of_z, rules, arith}
use borrow.Author.Rules.{sfits_of}
use Rattle.layout.specs.Rows.{row_length}
use Rattle.fields.proofs.FileTests.{block-is}
use Rattle.fields.proofs.Arrays.{cell-past, cell-is}
use Rattle.fields.proofs.reader.cell_in.Goals as goal

pub returns-then-n-i : goal.returns-then-n-i
returns-then-n-i c = search (rules, cell-past)

pub returns : goal.returns
returns c =
    let f = c.args.file.now in
    let k = c.args.c / row_length + 1 in
    cell-is f c.args.n c.args.c (c.requires.1) _ _ _ (block-is f k c.range.ensures) c.number_offset.ensures (omega arith)
    (to_z-of_z {w = w64} (sfits_of c.i32_at.type_inv) ∙ c.i32_at.ensures.0)
