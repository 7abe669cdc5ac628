-- `conditions::constraints::is_any_falsified` meets its contract. Assumes nothing.
use borrow.Author.Rules.{rules}
use Rattle.model_walk.specs.Validity.{falsifies}
use Rattle.std.proofs.lemmas.Iterator.{serves_from_Range}
use Rattle.lists.proofs.Chains.{some}
use Rattle.layout.specs.Rows.{box_of}
use Rattle.state.specs.View.{divisor_for, kept_at}
use mathlib.Core.Path.{refl}
use Rattle.conditions.proofs.Rows.{row-passed, divisor-passed}
use Rattle.conditions.proofs.constraints.is_any_falsified.Goals as goal

pub any-requires-clause-callable : goal.any-requires-clause-callable
any-requires-clause-callable c =
    let n = c.args.n in
    let m = c.args.m in
    let rows = c.args.rows.now in
    let divisors = c.args.divisors.now in
    let r = c.requires in
    serves_from_Range
    (λ j q k. search rules)
    (λ j l h.
    let row = row-passed n rows c.args.count j r.n_le_max_variables.0 r.n_le_max_variables.1 r.count_value h in
    let divisor = divisor-passed n m rows divisors j (divisor_for m divisors j) r.m_le_max_constraints.1 refl in
    search rules)

pub returns : goal.returns
returns c =
    let n = c.args.n in
    some c.args.count (falsifies (box_of n c.args.lower.now c.args.upper.now)) (kept_at n c.args.m c.args.rows.now c.args.divisors.now) c.any.ensures.ran (cc) (λ j b q k. search rules)
