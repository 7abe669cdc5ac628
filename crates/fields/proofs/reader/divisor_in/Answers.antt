use Rattle.std.proofs.Common.{◌+◌, ◌∙◌, w64, to_z-of_z}
use borrow.Author.Rules.{sfits_of}
use Rattle.fields.proofs.FileTests.{block-is}
use Rattle.fields.proofs.Arrays.{divisor-is}
use Rattle.fields.proofs.reader.divisor_in.Goals as goal

pub returns : goal.returns
returns c =
    let f = c.args.file.now in
    divisor-is f _ c.args.j _ (block-is f (c.args.j + 1) c.range.ensures) (to_z-of_z {w = w64} (sfits_of c.i32_at.type_inv) ∙ c.i32_at.ensures.0)
