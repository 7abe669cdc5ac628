-- `analyze::analysis::Core::resolvent` meets its contract: signs alike, an outcome that holds, tried before it is rounded, one out of range, one that is
-- not falsified, and one that is taken. Assumes nothing.
use Prim.Native.Nat.{ℕ, ◌+◌, ◌*◌, ◌<◌, ◌^◌}
use native.Mathlib.Omega.{arith}
use mathlib.Core.Bool.{Bool}
use mathlib.Core.List.{List}
use mathlib.Core.Path.{◌≡◌, refl, ap₂, sym, ◌∙◌}
use lib.IntN.{ℤ, pos}
use lib.ListN.{get_or}
use lib.Signed.{mag}
use Rattle.model_problems.specs.Constraint.{coefficient_at, opposite}
use Rattle.lists.proofs.Bools.{said-no, said-yes}
use Rattle.layout.specs.Rows.{row_length, constraint_at, row_at}
use Rattle.layout.proofs.Rows.{coefficient-at, row_plain}
use Rattle.layout.proofs.Elements.{back, cell-read}
use Rattle.linear.proofs.Ranges.{row_fits}
use Rattle.analyze.proofs.Resolvents.{kept-range, box-in-hand, with-alike, with-combined, with-large, taken-where-false}
use Rattle.analyze.proofs.analysis.Core.resolvent.Goals as goal

-- ---- the signs of F's and J's coefficients
signs : (n i j : ℕ) (f rows : List ℤ) (r : Bool) → i < n → mag (get_or f (i + 1) (pos 0)) < 2 ^ 63 → mag (get_or rows (row_length * j + 1 + i) (pos 0)) < 2 ^ 63 →
    r ≡ opposite (back (get_or f (i + 1) (pos 0))) (back (get_or rows (row_length * j + 1 + i) (pos 0))) →
    r ≡ opposite (coefficient_at (constraint_at n f 0) i) (coefficient_at (row_at n rows j) i)
unfolding row_at
signs n i j f rows r l p q e =
    let start = row_length * j in
    let a = cell-read f 0 i (i + 1) (omega arith) p ∙ sym (coefficient-at n f 0 i l) in
    let b = cell-read rows start i (start + 1 + i) refl q ∙ sym (coefficient-at n rows start i l) in
    e ∙ ap₂ opposite a b

pub returns-then-not-is_opposite : goal.returns-then-not-is_opposite
returns-then-not-is_opposite c =
    let a = c.args in
    let s = signs a.self.now.kept.n a.i a.j a.f.now a.self.now.kept.rows.now _ c.requires.variable (omega arith) (omega arith) c.is_opposite.ensures in
    λ number. with-alike _ _ _ _ _ (said-no s c.if-not-is_opposite.true)

pub combine_at-requires : goal.combine_at-requires
unfolding row_at
combine_at-requires c =
    let a = c.args in
    let q = c.requires in
    let p = a.self.now.in_range in
    let s = signs a.self.now.kept.n a.i a.j a.f.now a.self.now.kept.rows.now _ q.variable (omega arith) (omega arith) c.is_opposite.ensures in (
      record {
        variable = q.variable;
        combinable = record { variables = p.variables; first-row = omega (arith, q.size); second-row = omega (arith, q.row, p.rows-size); first_range = q.range; second_range = kept-range _ _ _ _ _ _ a.j p q.position };
        signs = said-yes s c.if-not-is_opposite.false;
      },
      refl,
    )

pub returns-then-is_holding : goal.returns-then-is_holding
unfolding row_at
returns-then-is_holding c =
    let a = c.args in
    let s = signs a.self.now.kept.n a.i a.j a.f.now a.self.now.kept.rows.now _ c.requires.variable (omega arith) (omega arith) c.is_opposite.ensures in
    let h = c.is_holding.ensures c.if-is_holding.true in
    λ number. with-combined _ _ _ _ _ _ (said-yes s c.if-not-is_opposite.false) c.combine_at.ensures.outcome (row_plain _ _ _) h.0 h.1

pub returns-then-not-is_in_range : goal.returns-then-not-is_in_range
unfolding row_at
returns-then-not-is_in_range c =
    let a = c.args in
    let s = signs a.self.now.kept.n a.i a.j a.f.now a.self.now.kept.rows.now _ c.requires.variable (omega arith) (omega arith) c.is_opposite.ensures in
    λ number. with-large _ _ _ _ _ _ (said-yes s c.if-not-is_opposite.false) c.combine_at.ensures.outcome c.round_into_range.ensures.same (said-no c.is_in_range.ensures c.if-not-is_in_range.true)

pub is_falsified-requires-clause-row_fits : goal.is_falsified-requires-clause-row_fits
is_falsified-requires-clause-row_fits c =
    let b = c.args.self.now.in_range in
    row_fits _ _ 0 b.variables (omega (arith, c.round_into_range.ensures.size, b.variables)) (said-yes c.is_in_range.ensures c.if-not-is_in_range.false)

pub is_falsified-requires-clause-box_fits : goal.is_falsified-requires-clause-box_fits
is_falsified-requires-clause-box_fits c = box-in-hand c.args.self.now.in_range

pub returns : goal.returns
unfolding row_at
returns c =
    let a = c.args in
    let s = signs a.self.now.kept.n a.i a.j a.f.now a.self.now.kept.rows.now _ c.requires.variable (omega arith) (omega arith) c.is_opposite.ensures in
    rw c.then_some.ensures
    (taken-where-false _ _ _ _ _ _ _ _ _ _ (said-yes s c.if-not-is_opposite.false) c.combine_at.ensures.outcome c.round_into_range.ensures.same
    (said-yes c.is_in_range.ensures c.if-not-is_in_range.false) c.round_into_range.ensures.size c.is_falsified.ensures)
