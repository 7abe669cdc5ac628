-- `search::exclude` meets its contract. Assumes nothing.
use Rattle.lists.proofs.Bools.{said-no}
use Rattle.shown.proofs.Showing.{takes}
use Rattle.shown.proofs.Excluding.{exclude-refused}
use Rattle.search.proofs.exclude.Goals as goal

pub returns-then-not-is_admitted : goal.returns-then-not-is_admitted
returns-then-not-is_admitted c = exclude-refused _ (said-no c.is_admitted.ensures c.if-not-is_admitted.true)

pub strike_out-requires : goal.strike_out-requires
strike_out-requires c = (takes c.is_admitted.ensures c.if-not-is_admitted.false).admits

pub returns : goal.returns
returns c = c.strike_out.ensures
