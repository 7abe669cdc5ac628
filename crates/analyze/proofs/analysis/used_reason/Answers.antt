-- `analyze::analysis::used_reason` meets its contract. Assumes nothing.
use mir.Facts.{to_z-of_z}
use Rattle.analyze.proofs.Resolvents.{reason-negative, reason-positive}
use Rattle.analyze.proofs.analysis.used_reason.Goals as goal

pub returns-then-a-lt0 : goal.returns-then-a-lt0
returns-then-a-lt0 c = let s = c in reason-negative s.args.a s.args.below s.args.above (simp (to_z-of_z, s.ranges.a) at c.if-a-lt0.true)

pub returns-else-a-lt0 : goal.returns-else-a-lt0
returns-else-a-lt0 c = let s = c in reason-positive s.args.a s.args.below s.args.above (simp (to_z-of_z, s.ranges.a) at c.if-a-lt0.false)
