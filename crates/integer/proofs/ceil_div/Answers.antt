-- `integer::ceil_div` meets its contract. Assumes nothing.
use Rattle.std.proofs.Common.{pos, ◌<ℤ◌, ◌≤ℤ◌, arith}
use Rattle.std.proofs.lemmas.Int.{ints}
use Rattle.integer.specs.Rounding.{ceil-quot, ceil-quot-pos, ceil-size}
use Rattle.integer.proofs.Quotients.{is-rounded, is-rounded-back, down-and-back}
use Rattle.integer.proofs.ceil_div.Goals as goal

pub returns-then-z-gt0 : goal.returns-then-z-gt0
returns-then-z-gt0 c =
    let z = c.args.z in
    let d = c.args.d in
    let f = c.ranges.z in
    let l : pos 0 <ℤ z = omega (arith, ints) in
    is-rounded-back z _ _ d f c.requires.0 c.requires.1 (down-and-back z l) (ceil-quot-pos z d l) (ceil-size z d)

pub returns-else-z-gt0 : goal.returns-else-z-gt0
returns-else-z-gt0 c =
    let z = c.args.z in
    let d = c.args.d in
    let f = c.ranges.z in
    let l : z ≤ℤ pos 0 = omega (arith, ints) in
    is-rounded z d f c.requires.0 c.requires.1 (ceil-quot z d l) (ceil-size z d)
