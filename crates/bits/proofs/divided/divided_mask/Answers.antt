-- `bits::divided::divided_mask` meets its contract. Assumes nothing.
use Rattle.std.proofs.Common.{rules}
use Rattle.layout.specs.Rows.{number_in, cell}
use Rattle.bits.proofs.divided.divided_mask.Goals as goal

pub returns : goal.returns
unfolding number_in cell
returns c = let r = c.mask_where.ensures in record { few = r.few; rest = λ i h z. let k = r.rest i h z in search rules }
