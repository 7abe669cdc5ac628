use Rattle.fields.proofs.Writing.{sizes-placed}
use Rattle.fields.proofs.writer.put_sizes.Goals as goal

pub returns : goal.returns
returns c = search sizes-placed
