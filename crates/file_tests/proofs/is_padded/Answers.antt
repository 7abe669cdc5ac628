use Rattle.std.proofs.Common.{refl, ◌+◌}
use Rattle.fields.proofs.FileTests.{block-is, padded-is}
use Rattle.file_tests.proofs.Both.{both-passed, first-failed}
use Rattle.file_tests.proofs.is_padded.Goals as goal

pub returns-then-is_zero_between : goal.returns-then-is_zero_between
returns-then-is_zero_between c =
    let f = c.args.file.now in
    let j = c.args.j in
    both-passed c.if-is_zero_between.true
    (padded-is f _ j _ _ _ _ (block-is f (j + 1) c.range.ensures) c.variables_in-n.ensures.0 c.number_offset.ensures c.is_zero_between.ensures c.is_zero_from.ensures)

pub returns-else-is_zero_between : goal.returns-else-is_zero_between
returns-else-is_zero_between c =
    let f = c.args.file.now in
    let j = c.args.j in
    first-failed _ c.if-is_zero_between.false
    (padded-is f _ j _ _ _ _ (block-is f (j + 1) c.range.ensures) c.variables_in-n.ensures.0 c.number_offset.ensures c.is_zero_between.ensures refl)
