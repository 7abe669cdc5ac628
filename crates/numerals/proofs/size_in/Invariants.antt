use Prim.Native.Nat.{◌<◌, ◌^◌}
use Rattle.numerals.proofs.Reading.{Left}
use Rattle.numerals.proofs.size_in.Given as goal

abbrev pub invariant-loop-byte : goal.invariant-loop-byte
invariant-loop-byte l = (l.value < 2 ^ 64) × Left l.word l.byte-index l.value
