-- The lower bounds of a level, copied to the start of an array of zeros.
use Prim.Native.Nat.{ℕ, ◌≤◌}
use native.Mathlib.Omega.{arith}
use mathlib.Core.List.{List, ◌++◌}
use mathlib.Core.Path.{◌≡◌}
use lib.IntN.{ℤ, pos}
use lib.ListN.{length, take, drop}
use Rattle.std.proofs.lemmas.List.{drop-replicate}
use Rattle.lists.proofs.Tab.{tab-of-part}
use Rattle.layout.specs.Rows.{number_in}
use Rattle.fields.specs.Fields.{room, zeros, filled}

pub copied : (n : ℕ) (xs ys : List ℤ) → n ≤ length xs → ys ≡ take n xs → ys ++ drop n (zeros room) ≡ filled (number_in xs) n room
unfolding zeros filled number_in
copied n xs ys h e = rw (e, drop-replicate n room (pos 0), tab-of-part xs (pos 0) 0 n (omega arith))
