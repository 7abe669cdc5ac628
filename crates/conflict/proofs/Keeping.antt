-- Where the kept constraints stand once a cut was kept.
use Prim.Native.Nat.{ℕ, ◌+◌, ◌-◌, ◌≤◌, ◌<◌}
use native.Mathlib.Omega.{arith}
use mathlib.Core.List.{List, [], ◌∷◌, ◌++◌}
use mathlib.Core.Logic.{⊎_elim}
use mathlib.Core.Path.{◌≡◌, sym, ap, ◌∙◌}
use lib.IntN.{ℤ}
use lib.ListN.{get_or, length, length-append, get_or-append}
use lib.Seq.{get_or-drop}
use Rattle.model_problems.specs.Lists.{tab}
use Rattle.model_problems.specs.Ranges.{max_variables, max_cuts}
use Rattle.model_problems.specs.Constraint.{Constraint}
use Rattle.model_files.specs.File.{no_constraint}
use Rattle.model_walk.specs.Search.{newest}
use Rattle.lists.proofs.Bools.{lt-or-le}
use Rattle.lists.proofs.Tab.{length-tab, get_d-tab, get_d-tab-from}
use Rattle.layout.specs.Rows.{constraint_at, row_at}
use Rattle.state.specs.View.{kept_cuts, dropped_cuts}
use Rattle.cuts.specs.Storing.{RowKept}
use Rattle.state.specs.Moved.{RowsMoved}
use Rattle.state.proofs.Moved.{place-less, place-more}

module _ (n m made : ℕ) (rows cut rows₁ : List ℤ) (few : n ≤ max_variables) (r : RowKept m made rows cut rows₁) where
  by : ℕ
  by = dropped_cuts (made + 1) - dropped_cuts made

  -- the inputs stay where they are
  pub input : (j : ℕ) → j < m → row_at n rows₁ j ≡ row_at n rows j
  input j h = sym (get_d-tab (row_at n rows₁) m j no_constraint h) ∙ ap (λ (ks : List Constraint). get_or ks j no_constraint) (r.inputs n few) ∙ get_d-tab (row_at n rows) m j no_constraint h

  -- the cut in place k of the kept ones
  later : (k : ℕ) → k < kept_cuts (made + 1) → k + by < kept_cuts made → row_at n rows₁ (m + k) ≡ row_at n rows (m + k + by)
  unfolding kept_cuts newest by
  later k h l =
      let olds = tab (row_at n rows) m (kept_cuts made) in
      let all = olds ++ (constraint_at n cut 0 ∷ []) in
      let size : length all ≡ kept_cuts made + 1 = length-append olds (constraint_at n cut 0 ∷ []) ∙ ap (λ (x : ℕ). x + 1) (length-tab (row_at n rows) m (kept_cuts made)) in
      let e : length all - max_cuts + k ≡ k + by = omega (arith, size) in
      sym (get_d-tab-from (row_at n rows₁) m (kept_cuts (made + 1)) k no_constraint h) ∙
      ap (λ (ks : List Constraint). get_or ks k no_constraint) (r.cuts n few) ∙
      get_or-drop (length all - max_cuts) all k no_constraint ∙
      ap (λ (x : ℕ). get_or all x no_constraint) e ∙
      get_or-append olds (constraint_at n cut 0 ∷ []) no_constraint (k + by) (omega (arith, length-tab (row_at n rows) m (kept_cuts made))) ∙
      get_d-tab-from (row_at n rows) m (kept_cuts made) (k + by) no_constraint l ∙ ap (row_at n rows) (omega arith)

  pub rows-kept : RowsMoved n m made (made + 1) rows rows₁
  unfolding by
  rows-kept =
      record {
        more = omega arith;
        at = λ j h l.
            ⊎_elim
            (λ (x : j < m). input j x ∙ ap (row_at n rows) (sym (place-less m by j x)))
            (λ (x : m ≤ j).
            let p = place-more m by j x in
            let e : m + (j - m) ≡ j = omega arith in
            ap (row_at n rows₁) (sym e) ∙ later (j - m) (omega arith) (omega (arith, p)) ∙ ap (row_at n rows) ((let q : m + (j - m) + by ≡ j + by = omega arith in q) ∙ sym p))
            (lt-or-le j m);
      }
