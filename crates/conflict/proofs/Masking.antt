-- The masks of the kept constraints, moved when a cut is kept.
use Prim.Native.Nat.{ℕ, ◌+◌, ◌-◌, ◌*◌, ◌≤◌, ◌<◌, ◌^◌}
use native.Mathlib.Nat.{eq-or-lt_of_le}
use native.Mathlib.Omega.{arith}
use mathlib.Core.List.{List, [], ◌∷◌, ◌++◌}
use mathlib.Core.Logic.{⊎_elim}
use mathlib.Core.Path.{◌≡◌, sym, ap, subst, ◌∙◌}
use lib.IntN.{ℤ, pos}
use lib.ListN.{get_or, length, length-append, get_or-append}
use lib.Seq.{get_or-drop, get_or-append_seam}
use Rattle.model_problems.specs.Lists.{tab}
use Rattle.model_problems.specs.Ranges.{max_variables, max_cuts}
use Rattle.model_problems.specs.Constraint.{Constraint, coefficient_at}
use Rattle.model_files.specs.File.{no_constraint}
use Rattle.model_walk.specs.Search.{newest}
use Rattle.lists.proofs.Tab.{length-tab, get_d-tab, get_d-tab-from}
use Rattle.layout.specs.Rows.{row_length, constraint_at, row_at}
use Rattle.layout.proofs.Rows.{coefficient-at}
use Rattle.state.specs.View.{kept_cuts, stored_number}
use Rattle.bits.specs.Masks.{bit, Mentions, Masked}
use Rattle.cuts.specs.Storing.{RowKept, NumberKept}
use Rattle.conflict.proofs.Keeping.{input}

-- a constraint mentions no variable but those of the mask
record Covers (n : ℕ) (k : Constraint) (mask : ℕ) : Type 0 where
  few : mask < 2 ^ n
  rest : (i : ℕ) → i < n → bit mask i ≡ 0 → coefficient_at k i ≡ pos 0

covers : (n : ℕ) (rows : List ℤ) (start mask : ℕ) → Mentions n rows start mask → Covers n (constraint_at n rows start) mask
covers n rows start mask m = record { few = m.few; rest = λ i h e. coefficient-at n rows start i h ∙ m.rest i h e }

mentions : (n : ℕ) (rows : List ℤ) (start mask : ℕ) → Covers n (constraint_at n rows start) mask → Mentions n rows start mask
mentions n rows start mask c = record { few = c.few; rest = λ i h e. sym (coefficient-at n rows start i h) ∙ c.rest i h e }

-- the newest of a list with one more at its end
newest-at : {A : Type 0} (xs : List A) (x d : A) (p : ℕ) → get_or (newest (xs ++ (x ∷ []))) p d ≡ get_or (xs ++ (x ∷ [])) (length xs + 1 - max_cuts + p) d
unfolding newest
newest-at xs x d p = get_or-drop (length (xs ++ (x ∷ [])) - max_cuts) (xs ++ (x ∷ [])) p d ∙ ap (λ (k : ℕ). get_or (xs ++ (x ∷ [])) (k - max_cuts + p) d) (length-append xs (x ∷ []))

module _ (n m made : ℕ) (rows cut rows₁ : List ℤ) (mask : ℕ) (inputs cuts cuts₁ : List ℕ) (few : n ≤ max_variables)
    (r : RowKept m made rows cut rows₁) (k : NumberKept made mask cuts cuts₁) (c : Mentions n cut 0 mask) (v : Masked n m (m + kept_cuts made) rows inputs cuts) where
  abbrev olds : List Constraint
  olds = tab (row_at n rows) m (kept_cuts made)

  abbrev marks : List ℕ
  marks = tab (stored_number cuts) 0 (kept_cuts made)

  -- the constraint and the mask in place q of all those that there are now
  pair : (q : ℕ) → q ≤ kept_cuts made → Covers n (get_or (olds ++ (constraint_at n cut 0 ∷ [])) q no_constraint) (get_or (marks ++ (mask ∷ [])) q 0)
  unfolding row_at stored_number
  pair q h =
      let a = length-tab (row_at n rows) m (kept_cuts made) in
      let b = length-tab (stored_number cuts) 0 (kept_cuts made) in
      ⊎_elim
      (λ (e : q ≡ kept_cuts made).
      subst (λ (z : Constraint). Covers n z (get_or (marks ++ (mask ∷ [])) q 0)) (sym (ap (λ (i : ℕ). get_or (olds ++ (constraint_at n cut 0 ∷ [])) i no_constraint) (e ∙ sym a) ∙ get_or-append_seam olds (constraint_at n cut 0) [] no_constraint))
      (subst (Covers n (constraint_at n cut 0)) (sym (ap (λ (i : ℕ). get_or (marks ++ (mask ∷ [])) i 0) (e ∙ sym b) ∙ get_or-append_seam marks mask [] 0)) (covers n cut 0 mask c)))
      (λ (l : q < kept_cuts made).
      let x = get_or-append olds (constraint_at n cut 0 ∷ []) no_constraint q (omega (arith, a)) ∙ get_d-tab-from (row_at n rows) m (kept_cuts made) q no_constraint l in
      let y = get_or-append marks (mask ∷ []) 0 q (omega (arith, b)) ∙ get_d-tab (stored_number cuts) (kept_cuts made) q 0 l in
      rw (x, y) (covers n rows (row_length * (m + q)) (get_or cuts q 0) (v.cut q (omega arith))))
      (eq-or-lt_of_le h)

  pub masked-kept : Masked n m (m + kept_cuts (made + 1)) rows₁ inputs cuts₁
  unfolding row_at stored_number kept_cuts
  masked-kept =
      record {
        input_room = v.input_room;
        cut_room = k.size ∙ v.cut_room;
        input = λ j h. mentions n rows₁ (row_length * j) (get_or inputs j 0) (subst (λ (z : Constraint). Covers n z (get_or inputs j 0)) (sym (input n m made rows cut rows₁ few r j h)) (covers n rows (row_length * j) (get_or inputs j 0) (v.input j h)));
        cut = λ p h.
            let l : p < kept_cuts (made + 1) = omega arith in
            let q = kept_cuts made + 1 - max_cuts + p in
            let a = length-tab (row_at n rows) m (kept_cuts made) in
            let b = length-tab (stored_number cuts) 0 (kept_cuts made) in
            let x : row_at n rows₁ (m + p) ≡ get_or (olds ++ (constraint_at n cut 0 ∷ [])) q no_constraint =
            sym (get_d-tab-from (row_at n rows₁) m (kept_cuts (made + 1)) p no_constraint l) ∙ ap (λ (ks : List Constraint). get_or ks p no_constraint) (r.cuts n few) ∙ newest-at olds (constraint_at n cut 0) no_constraint p ∙
            ap (λ (z : ℕ). get_or (olds ++ (constraint_at n cut 0 ∷ [])) (z + 1 - max_cuts + p) no_constraint) a in
            let y : get_or cuts₁ p 0 ≡ get_or (marks ++ (mask ∷ [])) q 0 =
            sym (get_d-tab (stored_number cuts₁) (kept_cuts (made + 1)) p 0 l) ∙ ap (λ (ks : List ℕ). get_or ks p 0) k.kept ∙ newest-at marks mask 0 p ∙ ap (λ (z : ℕ). get_or (marks ++ (mask ∷ [])) (z + 1 - max_cuts + p) 0) b in
            mentions n rows₁ (row_length * (m + p)) (get_or cuts₁ p 0) (rw (x, y) (pair q (omega arith)));
      }
