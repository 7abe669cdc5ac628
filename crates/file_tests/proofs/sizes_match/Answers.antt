use Rattle.fields.proofs.FileTests.{sizes-is}
use Rattle.file_tests.proofs.Both.{both-passed, first-failed}
use Rattle.file_tests.proofs.sizes_match.Goals as goal

pub returns-then-sizes_in_range : goal.returns-then-sizes_in_range
returns-then-sizes_in_range c =
    both-passed c.if-sizes_in_range.true (sizes-is c.args.file.now _ _ _ c.variables_in.ensures.0 c.constraints_in-m.ensures.0 c.budget_in.ensures _ c.sizes_in_range.ensures)

pub returns-else-sizes_in_range : goal.returns-else-sizes_in_range
returns-else-sizes_in_range c =
    first-failed _ c.if-sizes_in_range.false (sizes-is c.args.file.now _ _ _ c.variables_in.ensures.0 c.constraints_in-m.ensures.0 c.budget_in.ensures _ c.sizes_in_range.ensures)
