use borrow.Author.Rules.{rules}
use Rattle.model_files.specs.File.{threshold_offset}
use Rattle.fields.proofs.offsets.threshold_offset.Goals as goal

pub returns : goal.returns
unfolding threshold_offset
returns c = search rules
