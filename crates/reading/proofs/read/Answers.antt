-- `reading::read` meets its contract: its returns by the laws that it names. Assumes nothing.
use Rattle.lists.proofs.Bools.{said-yes}
use Rattle.reading.proofs.ReadCascade.{blocks}
use Rattle.reading.proofs.read.Goals as goal

pub problem_in-found-requires : goal.problem_in-found-requires
problem_in-found-requires c = blocks _ (said-yes c.sizes_match.ensures c.if-not-sizes_match.false)

pub padding_zero-requires : goal.padding_zero-requires
padding_zero-requires c = blocks _ (said-yes c.sizes_match.ensures c.if-not-sizes_match.false)
