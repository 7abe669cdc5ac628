-- `record::Record::put_cut` meets its contract. Assumes nothing.
use borrow.Author.Rules.{rules}
use Rattle.record.proofs.Putting.{constant-within, cut-placed}
use Rattle.record.proofs.Record.put_cut.Goals as goal

pub put_i32-requires : goal.put_i32-requires
put_i32-requires c = (search rules, constant-within _ c.args.self.now.cut_fits)

pub returns : goal.returns
returns c = cut-placed _ c.args.self.now.cut_fits c.put_i32.ensures c.put_coefficients.ensures
