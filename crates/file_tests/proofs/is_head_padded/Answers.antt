use Rattle.std.proofs.Common.{refl, rules}
use Rattle.model_files.specs.File.{threshold_offset}
use Rattle.fields.proofs.FileTests.{block-is, head-is}
use Rattle.file_tests.proofs.Both.{both-passed, first-failed}
use Rattle.file_tests.proofs.is_head_padded.Goals as goal

pub is_zero_between-requires : goal.is_zero_between-requires
unfolding threshold_offset
is_zero_between-requires c = search rules

pub returns-then-is_zero_between : goal.returns-then-is_zero_between
returns-then-is_zero_between c =
    let f = c.args.file.now in
    both-passed c.if-is_zero_between.true
    (head-is f _ _ _ _ _ _ _ (block-is f 0 c.range.ensures) c.variables_in-n.ensures.0 c.bounds_offset.ensures.0 c.threshold_offset.ensures.0 c.threshold_offset-then-is_zero_between.ensures.0 c.is_zero_between.ensures c.is_zero_from.ensures)

pub returns-else-is_zero_between : goal.returns-else-is_zero_between
returns-else-is_zero_between c =
    let f = c.args.file.now in
    first-failed _ c.if-is_zero_between.false
    (head-is f _ _ _ _ _ _ _ (block-is f 0 c.range.ensures) c.variables_in-n.ensures.0 c.bounds_offset.ensures.0 c.threshold_offset.ensures.0 refl c.is_zero_between.ensures refl)
