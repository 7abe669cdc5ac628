use Rattle.std.proofs.Common.{refl, rules}
use Rattle.model_files.specs.File.{constraints_in, constraint_padded}
use Rattle.lists.proofs.Chains.{every}
use Rattle.fields.proofs.FileTests.{padding-is}
use Rattle.file_tests.proofs.Both.{both-passed, first-failed}
use Rattle.file_tests.proofs.padding_zero.Goals as goal

pub returns-then-is_head_padded : goal.returns-then-is_head_padded
returns-then-is_head_padded c =
    let f = c.args.file.now in
    let all = every (constraints_in f) (constraint_padded f) (λ j. j) c.all.ensures.ran (cc) (λ j b q h. search rules) in
    both-passed c.if-is_head_padded.true (padding-is f _ _ c.is_head_padded.ensures all)

pub returns-else-is_head_padded : goal.returns-else-is_head_padded
returns-else-is_head_padded c = first-failed _ c.if-is_head_padded.false (padding-is c.args.file.now _ _ c.is_head_padded.ensures refl)
