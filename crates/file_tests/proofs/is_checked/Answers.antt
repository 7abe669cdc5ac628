use Rattle.std.proofs.Common.{◌∙◌}
use Rattle.fields.proofs.FileTests.{block-is, check-is}
use Rattle.file_tests.proofs.is_checked.Goals as goal

pub returns : goal.returns
returns c = let f = c.args.file.now in c.is_checked.ensures ∙ check-is f _ c.args.k (block-is f c.args.k c.range.ensures)
