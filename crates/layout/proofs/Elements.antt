-- An element that the code reads from an array of `i64`, as the views name it. The code's rules give that it fits: `c.NAME-arg.given`.
use Prim.Native.Nat.{ℕ, ◌+◌, ◌<◌, ◌^◌}
use mathlib.Core.List.{List}
use mathlib.Core.Path.{◌≡◌, ap, ◌∙◌}
use lib.IntN.{ℤ, pos}
use lib.Signed.{mag}
use lib.ListN.{get_or}
use mir.Syntax.{w64}
use mir.Val.{to_z, of_z}
use mir.Facts.{to_z-of_z}
use Rattle.layout.specs.Rows.{number_in, cell}

-- a number as it comes back from its bits
abbrev pub back : ℤ → ℤ
back z = to_z w64 (of_z w64 z)

pub number_read : (xs : List ℤ) (k : ℕ) → mag (get_or xs k (pos 0)) < 2 ^ 63 → back (get_or xs k (pos 0)) ≡ number_in xs k
unfolding number_in
number_read xs k h = to_z-of_z {w = w64} (record { sfits = h })

pub cell-read : (rows : List ℤ) (start i k : ℕ) → k ≡ start + 1 + i → mag (get_or rows k (pos 0)) < 2 ^ 63 →
    back (get_or rows k (pos 0)) ≡ cell rows start i
unfolding cell
cell-read rows start i k e h = number_read rows k h ∙ ap (number_in rows) e
