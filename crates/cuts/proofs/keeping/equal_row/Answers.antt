-- `cuts::keeping::equal_row` meets its contract. Assumes nothing.
use mathlib.Core.Bool.{true, false}
use mathlib.Core.Path.{◌≡◌}
use borrow.Author.Rules.{rules}
use Rattle.std.proofs.lemmas.Iterator.{first_from_Range}
use Rattle.model_problems.specs.Constraint.{equal}
use Rattle.layout.specs.Rows.{constraint_at, row_at}
use Rattle.cuts.proofs.Numbering.{scanned}
use Rattle.cuts.proofs.keeping.equal_row.Goals as goal

pub returns-clause-first : goal.returns-clause-first
unfolding row_at
returns-clause-first c =
    let a = c.args in
    let cut = constraint_at a.n a.cut.now 0 in
    let f = row_at a.n a.rows.now in
    (scanned f cut a.kept _ (first_from_Range _ _ _ _ (λ j. equal cut (f j) ≡ true) (λ j. equal cut (f j) ≡ false) c.find.ensures.ran (λ j q k. search rules) (λ j q k. search rules))).0
