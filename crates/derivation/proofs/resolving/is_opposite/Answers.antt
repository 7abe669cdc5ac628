-- `derivation::resolving::is_opposite` meets its contract. Assumes nothing.
use Rattle.std.proofs.Common.{arith}
use Rattle.std.proofs.lemmas.Int.{ints, to_z-of_z}
use Rattle.derivation.proofs.ResolvingLaws.{opposite-is}
use Rattle.derivation.proofs.resolving.is_opposite.Goals as goal

pub returns-then-b-lt0 : goal.returns-then-b-lt0
returns-then-b-lt0 c = grind (arith, ints, to_z-of_z, opposite-is)

pub returns-then-a-lt0 : goal.returns-then-a-lt0
returns-then-a-lt0 c = grind (arith, ints, to_z-of_z, opposite-is)

pub returns-else-a-lt0 : goal.returns-else-a-lt0
returns-else-a-lt0 c = grind (arith, ints, to_z-of_z, opposite-is)
