use borrow.Author.Rules.{rules}
use Rattle.fields.proofs.Writing.{divisor-back, constraint-sealed}
use Rattle.fields.proofs.writer.write_constraint.Goals as goal

pub put_i32-requires : goal.put_i32-requires
put_i32-requires c = search (rules, divisor-back)

pub returns : goal.returns
returns c = search (rules, constraint-sealed)
