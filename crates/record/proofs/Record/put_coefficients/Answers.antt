-- `record::Record::put_coefficients` meets its contract: the fields before i are put. Assumes nothing.
use Prim.Native.Nat.{◌<◌}
use native.Mathlib.Omega.{arith}
use borrow.Author.Rules.{rules}
use lib.ListN.{drop}
use Rattle.std.proofs.lemmas.List.{length-take}
use Rattle.model_problems.specs.Ranges.{max_variables}
use Rattle.block.proofs.Placing.{none-placed}
use Rattle.record.proofs.Putting.{rest-at, coefficient-within, coefficient-placed}
use Rattle.record.proofs.Record.put_coefficients.Goals as goal

pub loop-i-init : goal.loop-i-init
loop-i-init c = search (rules, none-placed)

pub put_i32-requires : goal.put_i32-requires
put_i32-requires c =
    let s = c.args.self.now in
    let i = c.loop-i.i in
    let h : i < max_variables = omega (arith, length-take max_variables (drop 1 s.cut)) in
    (search rules, rw (rest-at s.cut i h) (coefficient-within s.cut s.cut_fits i h))

pub loop-i-preserved : goal.loop-i-preserved
loop-i-preserved c =
    let s = c.args.self.now in
    let i = c.loop-i.i in
    let h : i < max_variables = omega (arith, length-take max_variables (drop 1 s.cut)) in
    coefficient-placed s.cut s.cut_fits i h c.loop-i.invariant (rw (rest-at s.cut i h) at c.put_i32.ensures)
