-- `search::strike_out` meets its contract. Assumes nothing.
use native.Mathlib.Omega.{arith}
use borrow.Author.Rules.{rules}
use mathlib.Core.Path.{refl, sym}
use Rattle.shown.proofs.Showing.{takes}
use Rattle.shown.proofs.Excluding.{exclude-unsolved, exclude-ended, exclude-struck}
use Rattle.search.proofs.strike_out.Goals as goal

pub strike-requires : goal.strike-requires
strike-requires c = ((takes (sym c.requires) refl).valid, omega arith)

pub returns-then-s-gt0 : goal.returns-then-s-gt0
returns-then-s-gt0 c = exclude-struck _ _ c.requires (search rules) (omega arith) c.strike.ensures

pub returns-else-s-gt0 : goal.returns-else-s-gt0
returns-else-s-gt0 c = exclude-ended _ c.requires (search rules) (omega arith)

pub returns-in_default : goal.returns-in_default
returns-in_default c = exclude-unsolved _ c.requires c.in_default.not-Solved
