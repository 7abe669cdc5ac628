-- `analyze::analysis::Core::analyze` meets its contract: what is ahead of the model's analysis at variable i is what is ahead of the code's. Assumes nothing.
use native.Mathlib.Omega.{arith}
use mathlib.Core.List.{[]}
use mathlib.Core.Path.{◌≡◌, refl}
use Rattle.layout.specs.Rows.{row_at}
use Rattle.analyze.proofs.Resolvents.{position-most, kept-range, analysis-start, analysis-step, analysis-end}
use Rattle.analyze.proofs.analysis.Core.analyze.Goals as goal

pub overflow_mul-j : goal.overflow_mul-j
overflow_mul-j c = record { fits = omega (arith, position-most c.args.self.now.in_range c.requires) }

pub copy_row-f-requires : goal.copy_row-f-requires
copy_row-f-requires c = let p = c.args.self.now.in_range in (p.variables, omega (arith, position-most p c.requires, p.variables, p.rows-size))

pub loop-i-init : goal.loop-i-init
unfolding row_at
loop-i-init c =
    let s = c.args.self.now in
    let a = c.copy_row-f.ensures in
    analysis-start s.kept.n s.kept.m s.kept.made s.kept.rows.now s.level.now.lower s.level.now.upper s.level.now.below s.level.now.above _ c.copy_row-f.result a.same (kept-range _ _ s.kept.made _ _ _ _ s.in_range c.requires) a.size

pub loop-i-preserved : goal.loop-i-preserved
loop-i-preserved c =
    let l = c.loop-i in
    let s = c.args.self.now in
    rw c.unwrap_or.ensures
    (analysis-step s.kept.n s.kept.m s.kept.made s.kept.rows.now s.level.now.lower s.level.now.upper s.level.now.below s.level.now.above _ l.i l.f _ l.used _
    s.in_range.variables c.loop-i-test.true (λ numbers decided outer. (c.resolve_at.ensures numbers decided outer).same) (c.resolve_at.ensures [] 0 []).range (c.resolve_at.ensures [] 0 []).size l.invariant)

pub returns : goal.returns
returns c =
    let l = c.loop-i in
    let s = c.args.self.now in
    let e : l.i ≡ 0 = omega arith in
    analysis-end s.kept.n s.kept.m s.kept.made s.kept.rows.now s.level.now.lower s.level.now.upper s.level.now.below s.level.now.above _ c.args.j l.f c.copy_row-cut.result l.used refl (rw e at l.invariant) c.copy_row-cut.ensures
