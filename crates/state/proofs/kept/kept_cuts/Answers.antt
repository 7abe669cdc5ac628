-- `state::kept::kept_cuts` meets its contract. Assumes nothing.
use native.Mathlib.Omega.{arith}
use Rattle.state.specs.View.{kept_cuts}
use Rattle.state.proofs.kept.kept_cuts.Goals as goal

pub returns : goal.returns
unfolding kept_cuts
returns c = (c.min.ensures, omega arith)
