-- `analyze::analysis::Core::resolve_at` meets its contract: the reason is no kept constraint, or the one at its position. Assumes nothing.
use Prim.Native.Nat.{ℕ, ◌<◌, ◌+◌, ◌^◌}
use native.Mathlib.Omega.{arith}
use mathlib.Core.List.{List}
use mathlib.Core.Path.{◌≡◌, ap, sym, ◌∙◌}
use lib.IntN.{ℤ, pos}
use lib.ListN.{get_or}
use lib.Signed.{mag}
use Rattle.model_problems.specs.Constraint.{coefficient_at}
use Rattle.model_walk.specs.Conflict.{used_reason}
use Rattle.layout.specs.Rows.{constraint_at}
use Rattle.layout.proofs.Rows.{coefficient-at}
use Rattle.layout.proofs.Elements.{back, cell-read}
use Rattle.state.specs.View.{reason_of, reasons_in}
use Rattle.analyze.proofs.Resolvents.{position-most, resolve-none, resolve-some}
use Rattle.analyze.proofs.analysis.Core.resolve_at.Goals as goal

-- ---- the reason is that of the bound which F uses
reason-is : (n i : ℕ) (f : List ℤ) (below above : List ℕ) (r : ℕ) → i < n → mag (get_or f (i + 1) (pos 0)) < 2 ^ 63 →
    reason_of r ≡ used_reason (back (get_or f (i + 1) (pos 0))) (record { lower = reason_of (get_or below i 0); upper = reason_of (get_or above i 0) }) →
    reason_of r ≡ used_reason (coefficient_at (constraint_at n f 0) i) (reasons_in below above i)
unfolding reasons_in
reason-is n i f below above r l p e =
    e ∙
    ap (λ (z : ℤ). used_reason z (record { lower = reason_of (get_or below i 0); upper = reason_of (get_or above i 0) }))
    (cell-read f 0 i (i + 1) (omega arith) p ∙ sym (coefficient-at n f 0 i l))

pub returns-in_err-j : goal.returns-in_err-j
returns-in_err-j c =
    let s = c.args.self.now in
    let a = c.args in
    let q = c.requires in
    let e = reason-is s.kept.n a.i a.f.now s.level.now.below s.level.now.above _ q.0 (omega arith) c.used_reason-reason.ensures in
    rw c.from_residual.ensures
    (λ numbers decided outer.
    record {
      same = resolve-none _ _ _ _ _ _ _ _ numbers decided outer s.in_range a.i q.0 _ _ _ e c.position_of.ensures c.in_err-j.was;
      range = q.1.0;
      size = q.1.1;
    })

pub resolvent-requires : goal.resolvent-requires
resolvent-requires c =
    let s = c.args.self.now in
    let h = rw c.in_ok-j.was at c.position_of.ensures.inside in
    record { variable = c.requires.0; position = h; row = position-most s.in_range h; size = c.requires.1.1; range = c.requires.1.0 }

pub returns-in_err-f : goal.returns-in_err-f
returns-in_err-f c =
    let s = c.args.self.now in
    let a = c.args in
    let q = c.requires in
    let e = reason-is s.kept.n a.i a.f.now s.level.now.below s.level.now.above _ q.0 (omega arith) c.used_reason-reason.ensures in
    rw c.from_residual-in_err-f.ensures
    (λ numbers decided outer.
    record {
      same = resolve-some _ _ _ _ _ _ _ _ numbers decided outer s.in_range a.i q.0 _ _ _ e c.position_of.ensures _ c.in_ok-j.was ∙ c.in_err-f.ensures _;
      range = q.1.0;
      size = q.1.1;
    })

pub returns : goal.returns
returns c =
    let s = c.args.self.now in
    let a = c.args in
    let q = c.requires in
    let e = reason-is s.kept.n a.i a.f.now s.level.now.below s.level.now.above _ q.0 (omega arith) c.used_reason-reason.ensures in
    λ numbers decided outer.
    let r = c.in_ok-f.ensures c.used_reason-reason.result in
    record {
      same = resolve-some _ _ _ _ _ _ _ _ numbers decided outer s.in_range a.i q.0 _ _ _ e c.position_of.ensures _ c.in_ok-j.was ∙ r.same;
      range = r.range;
      size = r.size;
    }
