-- Arrays that are filled from a file: what is read at each place.
use Prim.Native.Nat.{ℕ, zero, suc, ◌+◌, ◌*◌, ◌/◌, ◌%◌, ◌-◌, ◌<◌, ◌≤◌}
use native.Mathlib.Omega.{arith}
use native.Mathlib.Numerals.{add-one}
use native.Mathlib.Nat.{sub-zero}
use mathlib.Core.Path.{◌≡◌, refl, sym, ap, ◌∙◌}
use mathlib.Core.List.{List, [], ◌∷◌, append_assoc}
use lib.IntN.{ℤ, pos}
use lib.ListN.{set, replicate}
use lib.Seq.{set_at}
use mir.Syntax.{w64}
use mir.Val.{SFits, to_z, of_z}
use mir.Facts.{to_z-of_z}
use Rattle.model_files.specs.Bytes.{i32_at, block}
use Rattle.model_problems.specs.Constraint.{coefficient_at}
use Rattle.model_files.specs.File.{variables_in, coefficient_offset, divisor_offset, coefficient_in, constraint_in, constraint_of}
use Rattle.model_problems.specs.Lists.{tab}
use Rattle.lists.proofs.Tab.{length-tab, get_d-tab, get_d-tab-past, tab-more}
use Rattle.layout.specs.Rows.{row_length}
use Rattle.fields.specs.Fields.{zeros, in_row, filled, cell_in, divisor_in}

-- ---- an array that is filled from its start
module _ (f : ℕ → ℤ) (w : ℕ) where
  pub filled_none : zeros w ≡ filled f 0 w
  unfolding filled tab
  filled_none = rw (sub-zero w)

  pub filled_more : (i : ℕ) (xs : List ℤ) (v : ℤ) → SFits w64 v → i < w → xs ≡ filled f i w → v ≡ f i → set xs i (to_z w64 (of_z w64 v)) ≡ filled f (i + 1) w
  unfolding filled zeros
  filled_more i xs v g h e u =
      let s : w - i ≡ suc (w - (i + 1)) = omega arith in
      rw (to_z-of_z g, e, s, u, set_at (tab f 0 i) (pos 0) (replicate (w - (i + 1)) (pos 0)) (f i) i (length-tab f 0 i), tab-more f i)
      (sym (append_assoc (tab f 0 i) (f i ∷ []) (replicate (w - (i + 1)) (pos 0))))

  pub filled-end : (n i : ℕ) (xs : List ℤ) → n ≤ i → i ≤ n → xs ≡ filled f i w → xs ≡ filled f n w
  filled-end n i xs l h e = let z : i ≡ n = omega arith in rw z at e

-- ---- the numbers of a constraint's block
row_number : (n : ℕ) (b : List ℕ) (i : ℕ) → i ≤ n → in_row (constraint_in n b) i ≡ i32_at b (4 * i)
unfolding in_row constraint_in coefficient_at coefficient_in coefficient_offset
row_number n b zero h = refl
row_number n b (suc i) h = get_d-tab (coefficient_in b) n i (pos 0) (omega arith) ∙ ap (i32_at b) (omega arith)

row-past : (n : ℕ) (b : List ℕ) (i : ℕ) → n < i → in_row (constraint_in n b) i ≡ pos 0
unfolding in_row constraint_in coefficient_at
row-past n b zero h = absurd (omega arith)
row-past n b (suc i) h = get_d-tab-past (coefficient_in b) 0 n i (pos 0) (omega arith)

module _ (f : List ℕ) (n c : ℕ) (en : n ≡ variables_in f) where
  pub cell-past : n < c % row_length → pos 0 ≡ cell_in f c
  unfolding cell_in constraint_of
  cell-past h = rw (← en) (sym (row-past n (block f (suc (c / row_length))) (c % row_length) h))

  pub cell-is : (b : List ℕ) (a : ℕ) (r : ℤ) → b ≡ block f (c / row_length + 1) → a ≡ 4 * (c % row_length) → c % row_length ≤ n → r ≡ i32_at b a → r ≡ cell_in f c
  unfolding cell_in constraint_of
  cell-is b a r eb ea h e = e ∙ rw (eb, ea, ← en, add-one (c / row_length)) (sym (row_number n (block f (suc (c / row_length))) (c % row_length) h))

-- ---- the divisors
pub divisor-is : (f b : List ℕ) (j : ℕ) (r : ℤ) → b ≡ block f (j + 1) → r ≡ i32_at b divisor_offset → r ≡ divisor_in f j
unfolding divisor_in constraint_of constraint_in
divisor-is f b j r eb e = e ∙ rw (eb, add-one j)
