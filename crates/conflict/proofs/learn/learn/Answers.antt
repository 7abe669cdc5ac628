-- `conflict::learn::learn` meets its contract. Assumes nothing.
use native.Mathlib.Omega.{arith}
use Rattle.state.specs.View.{kept_cuts}
use Rattle.conflict.proofs.Learning.{learned-equal, learned-kept}
use Rattle.conflict.proofs.Masking.{masked-kept}
use Rattle.conflict.proofs.learn.learn.Goals as goal

pub equal_row-requires : goal.equal_row-requires
unfolding kept_cuts
equal_row-requires c =
    let p = c.requires.learnable in
    let k = c.kept-kept.ensures in
    (p.variables, (omega (arith, c.count.ensures, p.inputs, k.1.1.0), (rw k.0 p.rows_long, c.analyze.ensures.cut-size)))

pub number_of-requires : goal.number_of-requires
unfolding kept_cuts
number_of-requires c =
    let p = c.requires.learnable in
    let k = c.kept-kept.ensures in
    (omega (arith, c.in-Some.ensures.inside, c.count.ensures, p.inputs, k.1.1.0), rw k.1.1.1 p.cuts)

pub returns-in-Some-clause-learned : goal.returns-in-Some-clause-learned
returns-in-Some-clause-learned c =
    let a = c.args in
    let k = c.kept-kept.ensures in
    learned-equal _ _ _ _ _ a.level.now _ c.requires.learnable _ (rw (k.0, k.1.0, k.1.1.0, k.1.1.1) at c.analyze.ensures) c.equal_row.result c.in-Some.p c.number_of.result
    (rw (c.count.ensures, k.0, k.1.1.0, k.1.1.1) at c.equal_row.ensures.first) c.in-Some.is (rw (k.1.1.0, k.1.1.1) at c.number_of.ensures)

pub returns-in-None-clause-learned : goal.returns-in-None-clause-learned
returns-in-None-clause-learned c =
    let a = c.args in
    let k = c.kept-kept.ensures in
    learned-kept _ _ _ _ _ a.level.now _ c.requires.learnable _ (rw (k.0, k.1.0, k.1.1.0, k.1.1.1) at c.analyze.ensures) c.equal_row.result _ _
    (rw (c.count.ensures, k.0, k.1.1.0, k.1.1.1) at c.equal_row.ensures.first) c.in-None.is c.keep_row.ensures c.keep_number.ensures

pub returns-in-None-clause-marked : goal.returns-in-None-clause-marked
returns-in-None-clause-marked c = λ inputs v. masked-kept c.args.n _ _ _ _ _ _ inputs _ _ c.requires.learnable.variables c.keep_row.ensures c.keep_number-in-None.ensures c.row_mask.ensures v
