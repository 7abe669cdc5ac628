-- A record's bytes have room for 32 variables. Where the cut and the numbers used are 0 past n, they are those of the record of n variables.
use Prim.Native.Nat.{ℕ, ◌-◌, ◌<◌, ◌≤◌}
use mathlib.Core.Logic.{⊎_elim}
use mathlib.Core.Path.{◌≡◌, sym, ap, ap₂, ◌∙◌}
use mathlib.Core.List.{List, ◌++◌}
use lib.IntN.{ℤ, pos}
use lib.ListN.{get_or}
use Rattle.model_problems.specs.Lists.{tab, parts}
use Rattle.model_problems.specs.Ranges.{max_variables}
use Rattle.model_problems.specs.Constraint.{coefficient_at}
use Rattle.model_files.specs.Bytes.{u32_bytes, i32_bytes, sealed}
use Rattle.model_files.specs.File.{coefficient_bytes}
use Rattle.model_files.specs.Journal.{record_magic, used_bytes, record_head, record_content, record_bytes}
use Rattle.lists.proofs.Bools.{lt-or-le}
use Rattle.lists.proofs.Tab.{get_d-tab, get_d-tab-past}
use Rattle.lists.proofs.Parts.{parts-ext}
use Rattle.layout.specs.Rows.{number_in, cell, constraint_at}
use Rattle.record.specs.Written.{record_of, head_of, coefficients_of, used_of}

-- a table read past its end, of a function that is d there
tab-narrow : {A : Type 0} (f : ℕ → A) (d : A) (m n : ℕ) → ((i : ℕ) → n ≤ i → i < m → f i ≡ d) → (i : ℕ) → i < m → get_or (tab f 0 m) i d ≡ get_or (tab f 0 n) i d
tab-narrow f d m n past i h =
    get_d-tab f m i d h ∙ ⊎_elim (λ l. sym (get_d-tab f n i d l)) (λ l. past i l h ∙ sym (get_d-tab-past f 0 n i d l)) (lt-or-le i n)

module _ (n : ℕ) (cut : List ℤ) (past : (i : ℕ) → n ≤ i → i < max_variables → cell cut 0 i ≡ pos 0) where
  coefficients-narrow : coefficients_of max_variables cut ≡ parts (coefficient_bytes (constraint_at n cut 0)) 0 max_variables
  unfolding coefficient_bytes coefficient_at constraint_at
  coefficients-narrow =
      parts-ext (coefficient_bytes (constraint_at max_variables cut 0)) (coefficient_bytes (constraint_at n cut 0)) 0 max_variables
      (λ i l h. ap i32_bytes (tab-narrow (cell cut 0) (pos 0) max_variables n past i h))

module _ (n : ℕ) (used : List ℕ) (past : (i : ℕ) → n ≤ i → i < max_variables → get_or used i 0 ≡ 0) where
  used-narrow : used_of max_variables used ≡ parts (used_bytes (tab (λ i. get_or used i 0) 0 n)) 0 max_variables
  unfolding used_bytes
  used-narrow =
      parts-ext (used_bytes (tab (λ i. get_or used i 0) 0 max_variables)) (used_bytes (tab (λ i. get_or used i 0) 0 n)) 0 max_variables
      (λ i l h. ap u32_bytes (tab-narrow (λ k. get_or used k 0) 0 max_variables n past i h))

pub record-narrow : (n count falsified number depth back : ℕ) (cut : List ℤ) (used : List ℕ) →
    ((i : ℕ) → n ≤ i → i < max_variables → cell cut 0 i ≡ pos 0) → ((i : ℕ) → n ≤ i → i < max_variables → get_or used i 0 ≡ 0) →
    record_bytes (record_of max_variables count falsified number depth back cut used) ≡ record_bytes (record_of n count falsified number depth back cut used)
unfolding record_bytes record_content record_head constraint_at
record-narrow n count falsified number depth back cut used c u =
    ap₂ (λ (x y : List ℕ). sealed (count - 1) (record_magic ++ (head_of count falsified number depth back ++ (i32_bytes (number_in cut 0) ++ (x ++ y)))))
    (coefficients-narrow n cut c) (used-narrow n used u)
