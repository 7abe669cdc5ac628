use Rattle.model_files.specs.File.{threshold_in}
use Rattle.fields.proofs.reader.thresholds_in.Given as goal

abbrev pub ghost-filled : goal.ghost-filled
ghost-filled a = threshold_in a.f.0.now
