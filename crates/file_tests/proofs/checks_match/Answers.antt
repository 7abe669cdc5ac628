use Rattle.std.proofs.Common.{rules, ◌∙◌, ◌/◌, length}
use Rattle.model_files.specs.Bytes.{block_length}
use Rattle.model_files.specs.File.{check_matches}
use Rattle.lists.proofs.Chains.{every}
use Rattle.fields.proofs.FileTests.{checks-are}
use Rattle.file_tests.proofs.checks_match.Goals as goal

pub returns : goal.returns
returns c =
    let f = c.args.file.now in
    every (length f / block_length) (check_matches f) (λ k. k) c.all.ensures.ran (cc) (λ k b q h. search rules) ∙ checks-are f
