use Rattle.std.proofs.Common.{◌≡◌}
use Rattle.fields.specs.Fields.{filled}
use Rattle.fields.proofs.reader.filled.Given as goal

-- The numbers before i are there, and zeros stand after them.
abbrev pub invariant-loop-i : goal.invariant-loop-i
invariant-loop-i g l = l.numbers ≡ filled g.numbers l.i g.row.N
