use Rattle.std.proofs.Common.{ap, ◌∙◌, w64, to_z-of_z}
use borrow.Author.Rules.{sfits_of}
use Rattle.model_files.specs.Bytes.{i32_at}
use Rattle.model_files.specs.File.{threshold_in}
use Rattle.fields.proofs.reader.threshold_in.Goals as goal

pub returns : goal.returns
unfolding threshold_in
returns c = to_z-of_z {w = w64} (sfits_of c.i32_at.type_inv) ∙ c.i32_at.ensures.0 ∙ ap (i32_at c.args.file.now) c.threshold_offset.ensures.0
