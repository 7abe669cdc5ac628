-- `analyze::analysis::Core::analyze` meets its contract: what is ahead of the model's analysis at variable i is what is ahead of the code's. Assumes nothing.
use Rattle.layout.specs.Rows.{row_at}
use Rattle.analyze.proofs.Resolvents.{Analyzing}
use Rattle.analyze.proofs.analysis.Core.analyze.Given as goal

abbrev pub invariant-loop-i : goal.invariant-loop-i
invariant-loop-i l =
    let s = l.self in
    Analyzing s.kept.n s.kept.m s.kept.made s.kept.rows.now s.level.now.lower s.level.now.upper s.level.now.below s.level.now.above (row_at s.kept.n s.kept.rows.now l.j) l.i l.f l.used
