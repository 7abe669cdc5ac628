-- Moving elements of an array, and what that and storing do to the rows and numbers of the kept cuts.
use Prim.Native.Nat.{ℕ, suc, min, ◌+◌, ◌-◌, ◌*◌, ◌≤◌, ◌<◌}
use native.Mathlib.Omega.{arith}
use mathlib.Core.List.{List, [], ◌∷◌, ◌++◌}
use mathlib.Core.Logic.{⊎_elim}
use mathlib.Core.Path.{◌≡◌, sym, ap, ap₂, ◌∙◌}
use lib.IntN.{ℤ, pos}
use lib.ListN.{get_or, length, take, drop, length-append, length-drop}
use lib.Seq.{length-take-le}
use borrow.Rule.Slice.PartMut.{put_mid}
use borrow.Author.Rules.{rules}
use Rattle.std.proofs.lemmas.List.{places, get_or-take, get_or-drop}
use Rattle.lists.proofs.Bools.{lt-or-le}
use Rattle.model_problems.specs.Lists.{tab}
use Rattle.model_problems.specs.Ranges.{max_variables, max_cuts}
use Rattle.model_walk.specs.Search.{newest}
use Rattle.lists.proofs.Tab.{length-tab, tab-ext, tab-shift, tab-snoc}
use Rattle.layout.specs.Rows.{row_length, number_in, constraint_at, row_at}
use Rattle.layout.proofs.Rows.{row_same}
use Rattle.state.specs.View.{kept_cuts, stored_number}
use Rattle.cuts.specs.Storing.{last_cut, NewestKept, RowKept, NumberKept}

-- ---- one more at the end of a table of at most max_cuts
newest-few : {A : Type 0} (xs : List A) → length xs ≤ max_cuts → newest xs ≡ xs
unfolding newest
newest-few xs h = let e : length xs - max_cuts ≡ 0 = omega arith in rw e

newest-full : {A : Type 0} (x : A) (xs : List A) → length xs ≡ max_cuts → newest (x ∷ xs) ≡ xs
unfolding newest
newest-full x xs h = let e : suc (length xs) - max_cuts ≡ 1 = omega arith in rw e

module _ {A : Type 0} (f g : ℕ → A) (x : A) (m made : ℕ) where
  pub newest-more : made < max_cuts → ((j : ℕ) → m ≤ j → j < m + made → g j ≡ f j) → g (m + made) ≡ x → tab g m (kept_cuts (made + 1)) ≡ newest (tab f m (kept_cuts made) ++ (x ∷ []))
  unfolding kept_cuts
  newest-more l same last =
      let few : kept_cuts made ≡ made = omega arith in
      let more : kept_cuts (made + 1) ≡ made + 1 = omega arith in
      rw (few, more)
      (tab-snoc g m made ∙ ap₂ (λ (xs : List A) (y : A). xs ++ (y ∷ [])) (tab-ext g f m made same) last ∙
      sym (newest-few (tab f m made ++ (x ∷ [])) (omega (arith, length-append (tab f m made) (x ∷ []), length-tab f m made))))

  pub newest-moved : max_cuts ≤ made → ((j : ℕ) → m ≤ j → j < m + last_cut → g j ≡ f (suc j)) → g (m + last_cut) ≡ x → tab g m (kept_cuts (made + 1)) ≡ newest (tab f m (kept_cuts made) ++ (x ∷ []))
  unfolding kept_cuts tab
  newest-moved l same last =
      let full : kept_cuts made ≡ suc last_cut = omega arith in
      let more : kept_cuts (made + 1) ≡ last_cut + 1 = omega arith in
      rw (full, more)
      (tab-snoc g m last_cut ∙
      ap₂ (λ (xs : List A) (y : A). xs ++ (y ∷ []))
      (tab-shift g f m (suc m) last_cut (λ k b. same (m + k) (omega arith) (omega arith) ∙ ap f (omega arith))) last ∙
      sym (newest-full (f m) (tab f (suc m) last_cut ++ (x ∷ [])) (length-append (tab f (suc m) last_cut) (x ∷ []) ∙ ap (λ (k : ℕ). k + 1) (length-tab f (suc m) last_cut))))

-- ---- a part of a list written
module _ {A : Type 0} (a w : ℕ) (xs ys : List A) (d : A) (fits : a + w ≤ length xs) where
  part-at : (k : ℕ) → k < w → get_or (take w (drop a xs)) k d ≡ get_or xs (a + k) d
  part-at k h = get_or-take w (drop a xs) k d h ∙ get_or-drop a xs k d

  length_written : length ys ≡ w → length (put_mid a w xs ys) ≡ length xs
  length_written l = search (rules, places)

  before-part : (k : ℕ) → k < a → get_or (put_mid a w xs ys) k d ≡ get_or xs k d
  before-part k h = search (rules, places)

  in-part : length ys ≡ w → (k : ℕ) → k < w → get_or (put_mid a w xs ys) (a + k) d ≡ get_or ys k d
  in-part l k h = search (rules, places)

-- ---- rows: `part` holds those of the cuts
module _ (m made w : ℕ) (rows cut part : List ℤ) (e : w ≡ row_length * max_cuts) (fits : row_length * m + w ≤ length rows) (wide : length cut ≡ row_length)
    (k : NewestKept made cut (take w (drop (row_length * m) rows)) part) where
  written : List ℤ
  written = put_mid (row_length * m) w rows part

  part_long : length part ≡ w
  part_long = k.size ∙ length-take-le w (drop (row_length * m) rows) (omega (arith, length-drop (row_length * m) rows))

  stays : made < max_cuts → (x : ℕ) → x < row_length * made → get_or part x (pos 0) ≡ get_or (take w (drop (row_length * m) rows)) x (pos 0)
  stays q x h = k.stay q x (pos 0) (rw wide h)

  moves : max_cuts ≤ made → (x : ℕ) → x < row_length * last_cut → get_or part x (pos 0) ≡ get_or (take w (drop (row_length * m) rows)) (row_length + x) (pos 0)
  moves q x h = rw wide at (k.move q x (pos 0) (rw wide h))

  here : (i : ℕ) → i < row_length → get_or part (row_length * min made last_cut + i) (pos 0) ≡ get_or cut i (pos 0)
  here i h = rw wide at (k.here i (pos 0) (rw wide h))

  module _ (n : ℕ) (few : n ≤ max_variables) where
    input-stays : (j : ℕ) → j < m → row_at n written j ≡ row_at n rows j
    unfolding row_at number_in written
    input-stays j h = row_same n written rows (row_length * j) (row_length * j) (λ i l. before-part (row_length * m) w rows part (pos 0) fits (row_length * j + i) (omega arith))

    -- number i of row j, in the part and in all rows
    in-written : (i j : ℕ) → i ≤ n → m ≤ j → j < m + max_cuts → number_in written (row_length * j + i) ≡ get_or part (row_length * (j - m) + i) (pos 0)
    unfolding number_in written
    in-written i j l a b =
        ap (λ x. get_or written x (pos 0)) (omega arith) ∙ in-part (row_length * m) w rows part (pos 0) fits part_long (row_length * (j - m) + i) (omega arith)

    in-rows : (i j : ℕ) → i ≤ n → m ≤ j → j < m + max_cuts → get_or (take w (drop (row_length * m) rows)) (row_length * (j - m) + i) (pos 0) ≡ number_in rows (row_length * j + i)
    unfolding number_in
    in-rows i j l a b =
        part-at (row_length * m) w rows part (pos 0) fits (row_length * (j - m) + i) (omega arith) ∙ ap (λ x. get_or rows x (pos 0)) (omega arith)

    cut-stays : made < max_cuts → (j : ℕ) → m ≤ j → j < m + made → row_at n written j ≡ row_at n rows j
    unfolding row_at
    cut-stays q j a b =
        row_same n written rows (row_length * j) (row_length * j)
        (λ i l. in-written i j l a (omega arith) ∙ stays q (row_length * (j - m) + i) (omega arith) ∙ in-rows i j l a (omega arith))

    cut-moves : max_cuts ≤ made → (j : ℕ) → m ≤ j → j < m + last_cut → row_at n written j ≡ row_at n rows (suc j)
    unfolding row_at
    cut-moves q j a b =
        row_same n written rows (row_length * j) (row_length * suc j)
        (λ i l.
        in-written i j l a (omega arith) ∙ moves q (row_length * (j - m) + i) (omega arith) ∙
        ap (λ x. get_or (take w (drop (row_length * m) rows)) x (pos 0)) (omega arith) ∙ in-rows i (suc j) l (omega arith) (omega arith))

    cut-here : (j : ℕ) → j ≡ m + min made last_cut → row_at n written j ≡ constraint_at n cut 0
    unfolding row_at number_in
    cut-here j q =
        row_same n written cut (row_length * j) 0
        (λ i l.
        in-written i j l (omega arith) (omega arith) ∙ ap (λ x. get_or part x (pos 0)) (omega arith) ∙ here i (omega arith) ∙ ap (λ x. get_or cut x (pos 0)) (omega arith))

    cuts-kept : tab (row_at n written) m (kept_cuts (made + 1)) ≡ newest (tab (row_at n rows) m (kept_cuts made) ++ (constraint_at n cut 0 ∷ []))
    cuts-kept =
        ⊎_elim
        (λ (q : made < max_cuts). newest-more (row_at n rows) (row_at n written) (constraint_at n cut 0) m made q (cut-stays q) (cut-here (m + made) (omega arith)))
        (λ (q : max_cuts ≤ made). newest-moved (row_at n rows) (row_at n written) (constraint_at n cut 0) m made q (cut-moves q) (cut-here (m + last_cut) (omega arith)))
        (lt-or-le made max_cuts)

  pub row-kept : RowKept m made rows cut (put_mid (row_length * m) w rows part)
  unfolding written
  row-kept =
      record {
        size = length_written (row_length * m) w rows part (pos 0) fits part_long;
        inputs = λ n few. tab-ext (row_at n written) (row_at n rows) 0 m (λ j a b. input-stays n few j (omega arith));
        cuts = λ n few. cuts-kept n few;
      }

-- ---- a number
pub number-kept : (made number : ℕ) (numbers after : List ℕ) → NewestKept made (number ∷ []) numbers after → NumberKept made number numbers after
unfolding stored_number
number-kept made number numbers after k =
    record {
      size = k.size;
      kept = ⊎_elim
          (λ (q : made < max_cuts). newest-more (stored_number numbers) (stored_number after) number 0 made q (λ j a b. k.stay q j 0 (omega arith)) (ap (λ x. get_or after x 0) (omega arith) ∙ k.here 0 0 (omega arith)))
          (λ (q : max_cuts ≤ made). newest-moved (stored_number numbers) (stored_number after) number 0 made q (λ j a b. k.move q j 0 (omega arith) ∙ ap (stored_number numbers) (omega arith)) (ap (λ x. get_or after x 0) (omega arith) ∙ k.here 0 0 (omega arith)))
          (lt-or-le made max_cuts);
    }
