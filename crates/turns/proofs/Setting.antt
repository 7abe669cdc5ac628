-- The rows of the divisor constraints, put one after the other.
use Prim.Native.Nat.{ℕ, ◌+◌, ◌*◌, ◌≤◌, ◌<◌}
use native.Mathlib.Omega.{arith}
use mathlib.Core.List.{List}
use mathlib.Core.Logic.{⊎_elim}
use mathlib.Core.Path.{◌≡◌, ◌∙◌}
use native.Mathlib.Nat.{eq-or-lt_of_le}
use borrow.Author.Count.{below_more}
use lib.IntN.{ℤ, pos}
use Rattle.model_problems.specs.Ranges.{max_variables}
use Rattle.lists.proofs.Bools.{lt-or-le}
use Rattle.layout.specs.Rows.{row_length, number_in, row_at}
use Rattle.layout.specs.Copies.{Copied, Placed}
use Rattle.layout.proofs.Rows.{row_same}
use Rattle.layout.proofs.Placing.{placed-here, placed-before}
use Rattle.turns.specs.Setting.{RowsPut}

module _ (n j : ℕ) (divisors from before rows : List ℤ) (h : RowsPut n j divisors from before rows) where
  -- input j has no divisor
  pub put-past : number_in divisors j ≡ pos 0 → RowsPut n (j + 1) divisors from before rows
  put-past e =
      record {
        long = h.long;
        put = below_more (λ i. (number_in divisors i ≡ pos 0 → ⊥) → row_at n rows i ≡ row_at n from i) j h.put (λ z. absurd (z e));
        kept = λ i l z. h.kept i l (λ b. z (omega arith));
      }

  module _ (few : n ≤ max_variables) (row after : List ℤ) (c : Copied n from (row_length * j) row) (p : Placed (row_length * j) row_length row rows after) where
    placed-after : (i : ℕ) → j < i → row_at n after i ≡ row_at n rows i
    unfolding row_at
    placed-after i l = row_same n after rows (row_length * i) (row_length * i) (λ k b. p.above (row_length * i + k) (omega arith))

    here : row_at n after j ≡ row_at n from j
    unfolding row_at
    here = placed-here n few row rows after j p ∙ c.same

    stays : (i : ℕ) → i < j → row_at n after i ≡ row_at n rows i
    stays i l = placed-before n few row rows after j p i l

    -- it has one, and its row is put
    pub put-more : (number_in divisors j ≡ pos 0 → ⊥) → RowsPut n (j + 1) divisors from before after
    put-more d =
        record {
          long = p.size ∙ h.long;
          put = below_more (λ i. (number_in divisors i ≡ pos 0 → ⊥) → row_at n after i ≡ row_at n from i) j (λ i l z. stays i l ∙ h.put i l z) (λ z. here);
          kept = λ i l z.
              ⊎_elim
              (λ (b : i < j). stays i b ∙ h.kept i l (λ a. z (omega arith)))
              (λ (b : j ≤ i). ⊎_elim
              (λ (e : j ≡ i). absurd (d (rw e (z (omega arith)))))
              (λ (g : j < i). placed-after i g ∙ h.kept i l (λ a. z (omega arith)))
              (eq-or-lt_of_le b))
              (lt-or-le i j);
        }
