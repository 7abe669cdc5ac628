-- `search::open` meets its contract. Assumes nothing.
use mathlib.Core.Path.{◌∙◌}
use Rattle.shown.proofs.Openings.{can-open, file-opened}
use Rattle.search.proofs.open.Goals as goal

pub begin-requires : goal.begin-requires
begin-requires c = can-open _ _ c.read-found.ensures

pub returns : goal.returns
returns c = c.begin.ensures ∙ file-opened _ _ c.read-found.ensures
