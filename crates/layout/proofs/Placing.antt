-- A row stored, number by number, and the constraints that the rows then hold.
use Prim.Native.Nat.{ℕ, ◌+◌, ◌*◌, ◌≤◌, ◌<◌}
use native.Mathlib.Omega.{arith}
use mathlib.Core.List.{List}
use mathlib.Core.Path.{◌≡◌, refl, ap, ◌∙◌}
use borrow.Author.Count.{below_more}
use borrow.Author.Rules.{rules}
use borrow.Rule.Slice.PartMut.{put_mid}
use Rattle.std.proofs.lemmas.List.{places}
use lib.IntN.{ℤ, pos}
use lib.ListN.{length, set, length-set}
use lib.Seq.{get_or-set_same, get_or-set_other}
use Rattle.model_problems.specs.Ranges.{max_variables}
use Rattle.layout.specs.Rows.{row_length, number_in, constraint_at, row_at}
use Rattle.layout.proofs.Rows.{row_same}
use Rattle.layout.specs.Copies.{Placed}

module _ (start : ℕ) (row before : List ℤ) where
  pub place_none : Placed start 0 row before before
  place_none = record { size = refl; below = λ k l. refl; placed = λ k l. absurd (omega arith); above = λ k l. refl }

  pub place-more : (i : ℕ) (after : List ℤ) (v : ℤ) → start + i < length before → v ≡ number_in row i → Placed start i row before after →
      Placed start (i + 1) row before (set after (start + i) v)
  unfolding number_in
  place-more i after v l e p =
      record {
        size = length-set after (start + i) v ∙ p.size;
        below = λ k b. get_or-set_other after (start + i) k v (pos 0) (λ z. omega arith) ∙ p.below k b;
        placed = below_more (λ k. number_in (set after (start + i) v) (start + k) ≡ number_in row k) i
            (λ k b. get_or-set_other after (start + i) (start + k) v (pos 0) (λ z. omega arith) ∙ p.placed k b)
            (get_or-set_same after (start + i) v (pos 0) (omega (arith, p.size)) ∙ e);
        above = λ k b. get_or-set_other after (start + i) k v (pos 0) (λ z. omega arith) ∙ p.above k (omega arith);
      }

-- ---- the part of an array in which a row is put
module _ (start count k : ℕ) (row before : List ℤ) (e : k ≡ count) (l : length row ≡ count) (inside : start + count ≤ length before) where
  pub placed_part : (part : List ℤ) → part ≡ row → Placed start count row before (put_mid start k before part)
  unfolding number_in
  placed_part part p =
      record {
        size = search (rules, places);
        below = λ i b. search (rules, places);
        placed = λ i b. search (rules, places);
        above = λ i b. search (rules, places);
      }

-- ---- the constraint in the row, and those before it
module _ (n : ℕ) (few : n ≤ max_variables) (row before after : List ℤ) (j : ℕ) (p : Placed (row_length * j) row_length row before after) where
  pub placed-here : row_at n after j ≡ constraint_at n row 0
  unfolding row_at
  placed-here = row_same n after row (row_length * j) 0 (λ k l. p.placed k (omega arith) ∙ ap (number_in row) (omega arith))

  pub placed-before : (i : ℕ) → i < j → row_at n after i ≡ row_at n before i
  unfolding row_at
  placed-before i h = row_same n after before (row_length * i) (row_length * i) (λ k l. p.below (row_length * i + k) (omega arith))
