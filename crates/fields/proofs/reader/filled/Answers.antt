use Rattle.std.proofs.Common.{arith}
use borrow.Author.Rules.{sfits_of}
use Rattle.fields.specs.Fields.{zeros}
use Rattle.fields.proofs.Arrays.{filled_none, filled_more, filled-end}
use Rattle.fields.proofs.reader.filled.Goals as goal

pub loop-i-init : goal.loop-i-init
unfolding zeros
loop-i-init g c = filled_none g.numbers g.row.N

pub loop-i-preserved : goal.loop-i-preserved
loop-i-preserved g c =
    filled_more g.numbers g.row.N c.loop-i.i _ _ (sfits_of c.f.type_inv) (omega arith) c.loop-i.invariant (c.requires.1.1.1.1.1 _ _ c.loop-i-test.true c.f.ensures)

pub returns : goal.returns
returns g c = filled-end g.numbers g.row.N c.args.count c.loop-i.i _ (omega arith) (omega arith) c.loop-i.invariant
