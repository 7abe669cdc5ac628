-- `opening::round_row` meets its contract: the row stored is the constraint copied, and rounded where it has no divisor. Assumes nothing.
use Rattle.std.proofs.Common.{ap, ◌∙◌, rules, pos, w64, of_z, lit<}
use Rattle.model_problems.specs.Constraint.{rounded}
use Rattle.integer.specs.Size.{size, fits}
use Rattle.integer.specs.Tests.{same}
use Rattle.layout.specs.Rows.{number_in, row_at}
use Rattle.opening.proofs.Rows.{may-round, round-more, copy_more}
use Rattle.opening.proofs.round_row.Goals as goal

pub returns-then-p-j-ne0 : goal.returns-then-p-j-ne0
unfolding row_at number_in
returns-then-p-j-ne0 c =
    let p = c.args.p.now in
    let r = c.requires in
    copy_more p.n r.0 _ _ _ c.args.j c.store_row.ensures p.constraints p.divisors r.1.1.1 (λ z. c.if-p-j-ne0.true (ap (of_z w64) z)) c.copy_row-row.ensures.same

pub round-rounded-requires : goal.round-rounded-requires
unfolding row_at
round-rounded-requires c =
    let p = c.args.p.now in
    (c.requires.0, may-round p.n c.args.j p.constraints _ c.requires.1.1.0 c.copy_row-row.ensures.same)

pub returns-else-p-j-ne0 : goal.returns-else-p-j-ne0
unfolding row_at number_in
returns-else-p-j-ne0 c =
    let p = c.args.p.now in
    let r = c.requires in
    round-more p.n r.0 _ _ _ c.args.j c.store_row-else-p-j-ne0.ensures p.constraints p.divisors r.1.1.1
    (same (search rules) (fits (lit< tt) (size (pos 0))) c.if-p-j-ne0.false) (c.round-rounded.ensures ∙ ap rounded c.copy_row-row.ensures.same)
