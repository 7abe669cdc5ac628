-- The two bounds of a variable in a file.
use Rattle.std.specs.Prelude.{ℕ}
use Rattle.fields.specs.declared.offsets.Side.{Side}
use Rattle.fields.specs.declared.offsets.Side.TheVariants.{Lower, Upper}

-- how far a bound stands after the lower one
abbrev pub side_offset : Side → ℕ
side_offset Lower = 0
side_offset Upper = 4
