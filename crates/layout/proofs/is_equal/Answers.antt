-- `layout::is_equal` meets its contract. Assumes nothing.
use native.Mathlib.Omega.{arith}
use mathlib.Core.Path.{◌∙◌}
use Rattle.layout.proofs.Tests.{parts-equal}
use Rattle.layout.proofs.is_equal.Goals as goal

pub returns : goal.returns
returns c = c.eq.ensures ∙ parts-equal _ _ _ _ _ _ _ _ _ c.requires.0 c.requires.1 (omega arith) (omega arith) (omega arith) (omega arith)
