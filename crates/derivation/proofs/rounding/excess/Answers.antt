-- `derivation::rounding::excess` meets its contract. Assumes nothing.
use Rattle.std.proofs.Common.{ap, ◌∙◌, ◌+◌, nat_abs, arith}
use Rattle.std.proofs.lemmas.List.Edits.{length-between}
use Rattle.layout.specs.Rows.{cell}
use Rattle.layout.proofs.Elements.{number_read}
use Rattle.layout.proofs.Slices.{number-between}
use Rattle.derivation.proofs.RoundingLaws.{excess-at, excess-none}
use Rattle.derivation.proofs.rounding.excess.Goals as goal

pub returns-then-size-gt-MAX_COEFFICIENT : goal.returns-then-size-gt-MAX_COEFFICIENT
unfolding cell
returns-then-size-gt-MAX_COEFFICIENT c =
    let a = c.args in
    let i = c.loop-coefficient.coefficient-index in
    let l = length-between a.c.now 1 (a.n + 1) (omega arith) in
    excess-at a.n a.c.now i _ (omega arith)
    (c.magnitude-size.ensures ∙ ap nat_abs (number_read _ i (omega arith) ∙ number-between a.c.now 1 (a.n + 1) i (omega arith)))

pub returns : goal.returns
returns c = excess-none _
