-- Where a kept constraint stands: places one after the other, and rows that stay.
use Prim.Native.Nat.{ℕ, ◌+◌, ◌-◌, ◌≤◌, ◌<◌}
use native.Mathlib.Omega.{arith}
use mathlib.Core.List.{List}
use mathlib.Core.Logic.{⊎_elim}
use mathlib.Core.Path.{◌≡◌, sym, ap, ◌∙◌}
use borrow.Author.Tests.{lt-ltb, le-ltb}
use lib.IntN.{ℤ}
use Rattle.lists.proofs.Bools.{lt-or-le}
use Rattle.layout.specs.Rows.{row_at}
use Rattle.state.specs.View.{dropped_cuts}
use Rattle.state.specs.Moved.{place_of, RowsMoved}

module _ (m by j : ℕ) where
  pub place-less : j < m → place_of m by j ≡ j
  unfolding place_of
  place-less h = rw (lt-ltb j m h)

  pub place-more : m ≤ j → place_of m by j ≡ j + by
  unfolding place_of
  place-more h = rw (le-ltb j m h)

pub place_none : (m j : ℕ) → place_of m 0 j ≡ j
place_none m j = ⊎_elim (λ (h : j < m). place-less m 0 j h) (λ (h : m ≤ j). place-more m 0 j h ∙ (let e : j + 0 ≡ j = omega arith in e)) (lt-or-le j m)

pub place-again : (m a b c j : ℕ) → a ≤ b → b ≤ c → place_of m (b - a) (place_of m (c - b) j) ≡ place_of m (c - a) j
place-again m a b c j h k =
    ⊎_elim
    (λ (l : j < m). rw (place-less m (c - b) j l, place-less m (b - a) j l, place-less m (c - a) j l))
    (λ (l : m ≤ j).
    ap (place_of m (b - a)) (place-more m (c - b) j l) ∙ place-more m (b - a) (j + (c - b)) (omega arith) ∙ (let e : j + (c - b) + (b - a) ≡ j + (c - a) = omega arith in e) ∙ sym (place-more m (c - a) j l))
    (lt-or-le j m)

pub rows_stay : (n m made : ℕ) (rows : List ℤ) → RowsMoved n m made made rows rows
rows_stay n m made rows =
    let z : dropped_cuts made - dropped_cuts made ≡ 0 = omega arith in
    record { more = omega arith; at = λ j h l. rw z (ap (row_at n rows) (sym (place_none m j))) }
