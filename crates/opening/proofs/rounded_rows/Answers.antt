-- `opening::rounded_rows` meets its contract: the first j rows hold the constraints rounded. Assumes nothing.
use Rattle.std.proofs.Common.{◌≡◌, pos, replicate, arith}
use Rattle.std.proofs.lemmas.List.{length-replicate}
use Rattle.layout.specs.Rows.{rows_length}
use Rattle.opening.proofs.Rows.{row-in-range, round-none, all-rounded}
use Rattle.opening.proofs.rounded_rows.Goals as goal

pub loop-j-init : goal.loop-j-init
loop-j-init c = round-none _ _ _ (replicate rows_length (pos 0)) (length-replicate rows_length (pos 0))

pub round_row-requires : goal.round_row-requires
round_row-requires c =
    (c.requires.few-variables, (omega (arith, c.requires.few-constraints), (row-in-range c.args.p.now c.loop-j.j c.requires c.loop-j-test.true, c.loop-j.invariant)))

pub returns : goal.returns
returns c =
    let p = c.args.p.now in
    let e : c.loop-j.j ≡ p.m = omega arith in
    all-rounded p c.loop-j.rows (rw e at c.loop-j.invariant)
