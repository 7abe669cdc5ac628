-- The tests of a level's decision in the level above it, whose bounds are bottom and top.
use Prim.Native.Nat.{ℕ, ◌<◌, ◌≤◌}
use mathlib.Core.Bool.{◌&&◌, and-true}
use mathlib.Core.List.{List}
use mathlib.Core.Logic.{⊎_elim}
use mathlib.Core.Path.{◌≡◌}
use lib.Dec.{ltb}
use lib.IntN.{ℤ, pos}
use lib.ListN.{get_or}
use lib.Signed.{lt_z}
use borrow.Author.Tests.{lt-ltb, le-ltb}
use Rattle.model_problems.specs.Lists.{all}
use Rattle.model_problems.specs.Constraint.{equalℤ}
use Rattle.model_walk.specs.Validity.{decision_valid}
use Rattle.lists.proofs.Bools.{lt-or-le}
use Rattle.layout.specs.Rows.{number_in, box_of}
use Rattle.layout.proofs.Rows.{lower-at, upper-at}

pub decided : (n i : ℕ) (lower upper bottom top : List ℤ) →
    decision_valid n i (box_of n lower upper) (box_of n bottom top) ≡
    (ltb i n && (lt_z (get_or bottom i (pos 0)) (get_or top i (pos 0)) &&
    (equalℤ (get_or lower i (pos 0)) (get_or bottom i (pos 0)) && equalℤ (get_or upper i (pos 0)) (get_or bottom i (pos 0)))))
unfolding decision_valid all number_in
decided n i lower upper bottom top =
    ⊎_elim
    (λ (l : i < n).
    rw (lt-ltb i n l, lower-at n bottom top i l, upper-at n bottom top i l, lower-at n lower upper i l, upper-at n lower upper i l, and-true (equalℤ (get_or upper i (pos 0)) (get_or bottom i (pos 0)))))
    (λ (l : n ≤ i). rw (le-ltb i n l))
    (lt-or-le i n)
