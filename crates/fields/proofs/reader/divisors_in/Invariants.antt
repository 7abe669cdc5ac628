use Rattle.fields.specs.Fields.{divisor_in}
use Rattle.fields.proofs.reader.divisors_in.Given as goal

abbrev pub ghost-filled : goal.ghost-filled
ghost-filled a = divisor_in a.f.0.now
