use borrow.Author.Rules.{rules}
use Rattle.model_files.specs.File.{bounds_offset}
use Rattle.fields.proofs.offsets.bounds_offset.Goals as goal

pub returns : goal.returns
unfolding bounds_offset
returns c = search rules
