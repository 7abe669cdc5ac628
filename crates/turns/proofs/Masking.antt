-- The masks of the kept constraints, made when a call starts.
use Prim.Native.Nat.{ℕ, ◌+◌, ◌-◌, ◌≤◌}
use native.Mathlib.Omega.{arith}
use mathlib.Core.List.{List}
use mathlib.Core.Path.{◌≡◌}
use lib.IntN.{ℤ}
use Rattle.bits.specs.Masks.{Masked}
use Rattle.turns.specs.Marking.{Marks}

pub masked-starts : (n m kept : ℕ) (rows : List ℤ) (inputs cuts : List ℕ) → m ≤ kept → Marks n 0 m rows inputs → Marks n m (kept - m) rows cuts → Masked n m kept rows inputs cuts
masked-starts n m kept rows inputs cuts h a b = record { input_room = a.room; cut_room = b.room; input = λ j l. let z : 0 + j ≡ j = omega arith in rw z at (a.at j l); cut = λ p l. b.at p (omega arith) }
