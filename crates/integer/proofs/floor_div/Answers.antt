-- `integer::floor_div` meets its contract. Assumes nothing.
use Rattle.std.proofs.Common.{pos, ◌<ℤ◌, ◌≤ℤ◌, arith}
use Rattle.std.proofs.lemmas.Int.{ints}
use Rattle.integer.specs.Rounding.{floor-quot, floor-quot-neg, floor-size}
use Rattle.integer.proofs.Quotients.{is-rounded, is-rounded-back, up-and-back}
use Rattle.integer.proofs.floor_div.Goals as goal

pub returns-then-z-lt0 : goal.returns-then-z-lt0
returns-then-z-lt0 c =
    let z = c.args.z in
    let d = c.args.d in
    let f = c.ranges.z in
    let l : z <ℤ pos 0 = omega (arith, ints) in
    is-rounded-back z _ _ d f c.requires.0 c.requires.1 (up-and-back z l) (floor-quot-neg z d l) (floor-size z d)

pub returns-else-z-lt0 : goal.returns-else-z-lt0
returns-else-z-lt0 c =
    let z = c.args.z in
    let d = c.args.d in
    let f = c.ranges.z in
    let l : pos 0 ≤ℤ z = omega (arith, ints) in
    is-rounded z d f c.requires.0 c.requires.1 (floor-quot z d l) (floor-size z d)
