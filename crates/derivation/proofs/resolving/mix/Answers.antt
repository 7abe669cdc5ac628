-- `derivation::resolving::mix` meets its contract. Assumes nothing.
use Rattle.std.proofs.Common.{pos}
use Rattle.derivation.proofs.ResolvingLaws.{sum_fits, sum_is}
use Rattle.derivation.proofs.resolving.mix.Goals as goal

pub overflow_add-result : goal.overflow_add-result
overflow_add-result c = let r = c.requires in sum_fits (pos c.args.s) c.args.a (pos c.args.t) c.args.b (record { within = r.0 }) r.1.1.0 (record { within = r.1.0 }) r.1.1.1

pub returns : goal.returns
returns c = let r = c.requires in sum_is (pos c.args.s) c.args.a (pos c.args.t) c.args.b (record { within = r.0 }) r.1.1.0 (record { within = r.1.0 }) r.1.1.1
