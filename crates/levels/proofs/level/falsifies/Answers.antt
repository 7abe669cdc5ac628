-- `levels::level::falsifies` meets its contract. Assumes nothing.
use native.Mathlib.Omega.{arith}
use borrow.Author.Rules.{rules}
use mathlib.Core.Path.{◌≡◌}
use lib.ListN.{length}
use Rattle.lists.proofs.Bools.{true_of}
use Rattle.linear.proofs.Ranges.{box-fits}
use Rattle.levels.proofs.level.falsifies.Goals as goal

pub is_falsified-requires-clause-box_fits : goal.is_falsified-requires-clause-box_fits
is_falsified-requires-clause-box_fits c =
    let few = c.requires.row_fits.few in
    let lower : length c.args.level.now.lower ≡ 32 = search rules in
    let upper : length c.args.level.now.upper ≡ 32 = search rules in
    box-fits c.args.n _ _ (true_of _ c.requires.range) (omega (arith, few, lower)) (omega (arith, few, upper))
