-- `validate::is_mark_valid` meets its contract. Assumes nothing.
use native.Mathlib.Omega.{arith}
use borrow.Author.Rules.{rules}
use mathlib.Core.Path.{◌≡◌}
use lib.ListN.{length}
use Rattle.layout.specs.Rows.{rows_length}
use Rattle.state.specs.View.{status_of, inputs_of}
use Rattle.conditions.proofs.Marks.{level-fits, mark-view}
use Rattle.conditions.proofs.Rows.{few_kept}
use Rattle.conditions.proofs.Views.{constraints-view, divisors-view}
use Rattle.validate.proofs.is_mark_valid.Goals as goal

pub is_status_valid-requires-clause-n_le_max_variables : goal.is_status_valid-requires-clause-n_le_max_variables
is_status_valid-requires-clause-n_le_max_variables c =
    let few = few_kept c.args.s.now.made in
    let room : length c.args.s.now.rows ≡ rows_length = search rules in
    search rules

pub is_status_valid-requires-clause-count_value : goal.is_status_valid-requires-clause-count_value
is_status_valid-requires-clause-count_value c = let v = constraints-view c.args.s.now in search rules

pub is_status_valid-requires-clause-box_fits : goal.is_status_valid-requires-clause-box_fits
is_status_valid-requires-clause-box_fits c =
    let s = c.args.s.now in
    let few = c.requires.passed.variables in
    let o = c.whole-outermost.ensures in
    let d = c.whole-deepest.ensures in
    let levels = c.requires.levels in (
      level-fits s 0 (omega arith) levels _ o.0 (omega (arith, few, o.1.lower)) (omega (arith, few, o.1.upper)),
      level-fits s s.depth (omega arith) levels _ d.0 (omega (arith, few, d.1.lower)) (omega (arith, few, d.1.upper)),
    )

pub is_status_valid-requires-clause-m_le_max_constraints : goal.is_status_valid-requires-clause-m_le_max_constraints
unfolding inputs_of
is_status_valid-requires-clause-m_le_max_constraints c = let v = divisors-view c.args.s.now in search rules

pub returns : goal.returns
returns c = let v = mark-view c.args.s.now (status_of c.args.s.now.status) in search rules
