use Rattle.fields.specs.Fields.{bound_in}
use Rattle.fields.specs.Sides.{side_offset}
use Rattle.fields.proofs.reader.bounds_in.Given as goal

abbrev pub ghost-filled : goal.ghost-filled
ghost-filled a = bound_in a.f.0.now (side_offset a.f.1.now)
