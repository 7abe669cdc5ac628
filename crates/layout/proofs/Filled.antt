-- A row that a loop fills: first the constant, then the coefficients from the front.
use Prim.Native.Nat.{ℕ, ◌+◌, ◌<◌}
use native.Mathlib.Omega.{arith}
use mathlib.Core.List.{List}
use mathlib.Core.Path.{◌≡◌, ◌∙◌}
use borrow.Author.Count.{below_more}
use lib.IntN.{ℤ, pos}
use lib.ListN.{set, length, length-set}
use lib.Seq.{get_or-set_same, get_or-set_other}
use Rattle.model_problems.specs.Lists.{tab}
use Rattle.lists.proofs.Tab.{tab-ext-0}
use Rattle.layout.specs.Rows.{row_length, number_in, cell, constraint_at}
use Rattle.layout.proofs.Rows.{constraint-eq}

-- the constant is z, and coefficient k is g k for each k below i
pub record Filled (z : ℤ) (g : ℕ → ℤ) (i : ℕ) (r : List ℤ) : Type 0 where
  pub row : length r ≡ row_length
  pub constant : number_in r 0 ≡ z
  pub coefficient : (k : ℕ) → k < i → cell r 0 k ≡ g k

pub fill-constant : {z : ℤ} {g : ℕ → ℤ} (r : List ℤ) (v : ℤ) → length r ≡ row_length → v ≡ z → Filled z g 0 (set r 0 v)
unfolding number_in
fill-constant r v l e =
    record {
      row = length-set r 0 v ∙ l;
      constant = get_or-set_same r 0 v (pos 0) (omega arith) ∙ e;
      coefficient = λ k h. absurd (omega arith);
    }

pub fill-coefficient : {z : ℤ} {g : ℕ → ℤ} {i : ℕ} {r : List ℤ} (v : ℤ) → i + 1 < row_length → Filled z g i r → v ≡ g i → Filled z g (i + 1) (set r (i + 1) v)
unfolding number_in cell
fill-coefficient {z} {g} {i} {r} v l h e =
    let same : 0 + 1 + i ≡ i + 1 = omega arith in
    record {
      row = length-set r (i + 1) v ∙ h.row;
      constant = get_or-set_other r (i + 1) 0 v (pos 0) (λ x. omega arith) ∙ h.constant;
      coefficient = below_more (λ k. cell (set r (i + 1) v) 0 k ≡ g k) i
          (λ k m. get_or-set_other r (i + 1) (0 + 1 + k) v (pos 0) (λ x. omega arith) ∙ h.coefficient k m)
          (rw same (get_or-set_same r (i + 1) v (pos 0) (omega (arith, h.row)) ∙ e));
    }

pub filled : {z : ℤ} {g : ℕ → ℤ} (n : ℕ) (r : List ℤ) → Filled z g n r → constraint_at n r 0 ≡ record { constant = z; coefficients = tab g 0 n; divisor = pos 0 }
unfolding constraint_at
filled {z} {g} n r h = constraint-eq h.constant (tab-ext-0 (cell r 0) g n h.coefficient)
