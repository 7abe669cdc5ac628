use Rattle.fields.specs.Fields.{cell_in}
use Rattle.fields.proofs.reader.rows_in.Given as goal

abbrev pub ghost-filled : goal.ghost-filled
ghost-filled a = cell_in a.f.0.now
