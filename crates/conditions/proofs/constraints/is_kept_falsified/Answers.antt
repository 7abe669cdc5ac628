-- `conditions::constraints::is_kept_falsified` meets its contract. Assumes nothing.
use borrow.Author.Rules.{rules}
use Rattle.model_walk.specs.Validity.{falsifies}
use Rattle.state.specs.View.{kept_at}
use Rattle.conditions.proofs.constraints.is_kept_falsified.Goals as goal

pub returns : goal.returns
unfolding kept_at falsifies
returns c = search rules
