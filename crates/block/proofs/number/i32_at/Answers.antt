use Rattle.std.proofs.Common.{◌≡◌, ◌∙◌, w64, to_z, of_z, arith}
use Rattle.std.proofs.lemmas.Int.{ints}
use Rattle.block.proofs.Reading.{i32-is, i32-within}
use Rattle.block.proofs.number.i32_at.Goals as goal

pub returns : goal.returns
returns c =
    let e : to_z w64 (of_z w64 c.from.result) ≡ c.from_le_bytes.result = omega (arith, ints) in
    (e ∙ c.from_le_bytes.ensures ∙ i32-is c.args.s.now c.bytes_at.result c.args.i c.bytes_at.ensures, rw e (i32-within c.from_le_bytes.result (omega arith)))
