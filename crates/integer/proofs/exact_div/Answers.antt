-- `integer::exact_div` meets its contract. Assumes nothing.
use Rattle.integer.specs.Rounding.{exact-quot, exact-size}
use Rattle.integer.proofs.Quotients.{is-rounded}
use Rattle.integer.proofs.exact_div.Goals as goal

pub returns : goal.returns
returns c = is-rounded c.args.z c.args.d c.ranges.z c.requires.0 c.requires.1 (exact-quot c.args.d c.args.z) (exact-size c.args.d c.args.z)
