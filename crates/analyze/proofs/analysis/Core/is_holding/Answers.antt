-- `analyze::analysis::Core::is_holding` meets its contract. Assumes nothing.
use native.Mathlib.Omega.{arith}
use Rattle.lists.proofs.Bools.{said-yes}
use Rattle.linear.proofs.Ranges.{row_fits}
use Rattle.analyze.proofs.Resolvents.{box-in-hand}
use Rattle.analyze.proofs.analysis.Core.is_holding.Goals as goal

pub is_falsified-requires-clause-row_fits : goal.is_falsified-requires-clause-row_fits
is_falsified-requires-clause-row_fits c = let b = c.args.self.now.in_range in row_fits _ _ 0 b.variables (omega (arith, b.variables)) (said-yes c.is_in_range.ensures c.if-is_in_range.true)

pub is_falsified-requires-clause-box_fits : goal.is_falsified-requires-clause-box_fits
is_falsified-requires-clause-box_fits c = box-in-hand c.args.self.now.in_range
