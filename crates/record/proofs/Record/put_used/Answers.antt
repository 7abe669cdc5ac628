-- `record::Record::put_used` meets its contract: the fields before i are put. Assumes nothing.
use borrow.Author.Rules.{rules}
use Rattle.block.proofs.Placing.{none-placed}
use Rattle.record.proofs.Putting.{used-placed, all_placed}
use Rattle.record.proofs.Record.put_used.Goals as goal

pub loop-i-init : goal.loop-i-init
loop-i-init c = search (rules, none-placed)

pub loop-i-preserved : goal.loop-i-preserved
loop-i-preserved c = used-placed c.args.self.now.used _ c.loop-i-test.true c.loop-i.invariant c.put_u32.ensures

pub returns : goal.returns
returns c = search (rules, all_placed)
