-- What is saved of the constraints, as the search goes on.
use Prim.Native.Nat.{ℕ, ◌+◌, ◌-◌, ◌*◌, ◌≤◌, ◌<◌}
use native.Mathlib.Nat.{eq-or-lt_of_le}
use native.Mathlib.Omega.{arith}
use mathlib.Core.List.{List}
use mathlib.Core.Logic.{⊎_elim}
use mathlib.Core.Path.{◌≡◌, sym, ap, subst, ◌∙◌}
use lib.IntN.{ℤ}
use lib.ListN.{get_or, set, length, replicate}
use lib.Seq.{get_or-set_same, get_or-set_other}
use lib.Signed.{◌≤ℤ◌}
use Rattle.model_problems.specs.Ranges.{max_constraints}
use Rattle.model_problems.specs.Constraint.{Constraint, activity, coefficient_at}
use Rattle.lists.proofs.Bools.{lt-or-le}
use Rattle.lists.proofs.Tab.{get_d-const}
use Rattle.linear.specs.Reach.{span_of}
use Rattle.layout.specs.Rows.{row_length, number_in, row_at, bounds_at, box_of}
use Rattle.layout.proofs.Rows.{coefficient-at}
use Rattle.state.specs.View.{kept_cuts, no_level, dropped_cuts}
use Rattle.state.specs.Moved.{place_of, RowsMoved}
use Rattle.state.specs.declared.Level.{Level}
use Rattle.state.proofs.Moved.{place-less, place-more, place-again, place_none}
use Rattle.propagate.specs.Tracked.{Known, Tracked}
use Rattle.levels.specs.Copied.{Copied}
use Rattle.backtrack.specs.Saved.{saved_room, SavedAt, Saved}

-- ---- a constraint that moved
known-moved : (n : ℕ) (rows rows₁ lower upper : List ℤ) (j q : ℕ) (a r : ℤ) → row_at n rows₁ j ≡ row_at n rows q → Known n rows lower upper q a r → Known n rows₁ lower upper j a r
unfolding row_at
known-moved n rows rows₁ lower upper j q a r e k =
    record {
      same = k.same ∙ ap (λ (c : Constraint). activity c (box_of n lower upper)) (sym e);
      size = k.size;
      reach =
          record {
            spans = λ i h.
                subst (λ (z : ℤ). span_of z (bounds_at lower upper i) ≤ℤ r)
                (sym (coefficient-at n rows (row_length * q) i h) ∙ ap (λ (c : Constraint). coefficient_at c i) (sym e) ∙ coefficient-at n rows₁ (row_length * j) i h) (k.reach.spans i h);
            size = k.reach.size;
          };
    }

saved-at-moved : (n m made made₁ : ℕ) (rows rows₁ lower upper olds limits : List ℤ) (gone count t : ℕ) → RowsMoved n m made made₁ rows rows₁ →
    SavedAt n m made rows lower upper olds limits gone count t → SavedAt n m made₁ rows₁ lower upper olds limits gone count t
unfolding kept_cuts
saved-at-moved n m made made₁ rows rows₁ lower upper olds limits gone count t moved s =
    record { order = omega (arith, s.order, moved.more); bound = omega (arith, s.bound, moved.more); most = s.most; at = at }
  where
    at : (j : ℕ) → j < m + kept_cuts made₁ → place_of m (dropped_cuts made₁ - gone) j < count →
        Known n rows₁ lower upper j (number_in olds (saved_room * t + place_of m (dropped_cuts made₁ - gone) j)) (number_in limits (saved_room * t + place_of m (dropped_cuts made₁ - gone) j))
    at j h l =
        let q = place_of m (dropped_cuts made₁ - dropped_cuts made) j in
        let e : place_of m (dropped_cuts made - gone) q ≡ place_of m (dropped_cuts made₁ - gone) j = place-again m gone (dropped_cuts made) (dropped_cuts made₁) j s.order (omega (arith, moved.more)) in
        let b : q < m + kept_cuts made =
        ⊎_elim
        (λ (x : j < m). omega (arith, place-less m (dropped_cuts made₁ - dropped_cuts made) j x))
        (λ (x : m ≤ j). omega (arith, place-more m (dropped_cuts made₁ - dropped_cuts made) j x, place-more m (dropped_cuts made₁ - gone) j x, s.bound, s.order, moved.more))
        (lt-or-le j m) in
        known-moved n rows rows₁ lower upper j q _ _ (moved.at j h b)
        (subst (λ (p : ℕ). Known n rows lower upper q (number_in olds (saved_room * t + p)) (number_in limits (saved_room * t + p))) e (s.at q b (rw e l)))

module _ (n m : ℕ) (olds limits : List ℤ) (gones counts : List ℕ) where
  -- a cut that was kept
  pub saved-moved : (made made₁ : ℕ) (rows rows₁ : List ℤ) (levels : List Level) (depth : ℕ) → RowsMoved n m made made₁ rows rows₁ →
      Saved n m made rows levels olds limits gones counts depth → Saved n m made₁ rows₁ levels olds limits gones counts depth
  saved-moved made made₁ rows rows₁ levels depth moved s = record { at = λ t h. saved-at-moved n m made made₁ rows rows₁ _ _ olds limits _ _ t moved (s.at t h) }

  -- a level that is not above
  pub saved-stored : (made : ℕ) (rows : List ℤ) (levels : List Level) (depth d : ℕ) (l : Level) → depth ≤ d → Saved n m made rows levels olds limits gones counts depth →
      Saved n m made rows (set levels d l) olds limits gones counts depth
  saved-stored made rows levels depth d l h s =
      record {
        at = λ t b.
            subst (λ (k : Level). SavedAt n m made rows k.lower k.upper olds limits (get_or gones t 0) (get_or counts t 0) t)
            (sym (get_or-set_other levels d t l no_level (λ z. omega arith))) (s.at t b);
      }

  pub saved-less : (made : ℕ) (rows : List ℤ) (levels : List Level) (depth d : ℕ) → d ≤ depth → Saved n m made rows levels olds limits gones counts depth → Saved n m made rows levels olds limits gones counts d
  saved-less made rows levels depth d h s = record { at = λ t b. s.at t (omega arith) }

-- nothing saved
pub saved-none : (n m made : ℕ) (rows : List ℤ) (levels : List Level) (olds limits : List ℤ) (k depth : ℕ) → Saved n m made rows levels olds limits (replicate k 0) (replicate k 0) depth
saved-none n m made rows levels olds limits k depth =
    record {
      at = λ t h. rw (get_d-const {A = ℕ} 0 k t) (record { order = omega arith; bound = omega arith; most = omega arith; at = λ j a b. absurd (omega arith) });
    }

-- ---- a level that a decision leaves
module _ (n m made : ℕ) (rows : List ℤ) (levels : List Level) (here : Level) (olds limits olds₁ limits₁ : List ℤ) (gones counts : List ℕ) (depth : ℕ) (activities reaches : List ℤ) where
  saved-before : (lower upper : List ℤ) (gone count t : ℕ) → t < depth → Copied (m + kept_cuts made) (saved_room * depth) activities olds olds₁ → Copied (m + kept_cuts made) (saved_room * depth) reaches limits limits₁ →
      SavedAt n m made rows lower upper olds limits gone count t → SavedAt n m made rows lower upper olds₁ limits₁ gone count t
  saved-before lower upper gone count t h a b s =
      record {
        order = s.order;
        bound = s.bound;
        most = s.most;
        at = λ j l k.
            rw (a.below (saved_room * t + place_of m (dropped_cuts made - gone) j) (omega (arith, s.most)), b.below (saved_room * t + place_of m (dropped_cuts made - gone) j) (omega (arith, s.most))) (s.at j l k);
      }

  saved-here : m ≤ max_constraints → Tracked n rows here.lower here.upper activities reaches (m + kept_cuts made) → Copied (m + kept_cuts made) (saved_room * depth) activities olds olds₁ → Copied (m + kept_cuts made) (saved_room * depth) reaches limits limits₁ →
      SavedAt n m made rows here.lower here.upper olds₁ limits₁ (dropped_cuts made) (m + kept_cuts made) depth
  unfolding kept_cuts
  saved-here inputs tracked a b =
      record {
        order = omega arith;
        bound = omega arith;
        most = omega arith;
        at = λ j l k.
            let z : dropped_cuts made - dropped_cuts made ≡ 0 = omega arith in
            rw (z, place_none m j, a.inside j l, b.inside j l) (tracked.at j l);
      }

  pub saved-decided : m ≤ max_constraints → depth < length levels → depth < length gones → depth < length counts → Tracked n rows here.lower here.upper activities reaches (m + kept_cuts made) →
      Copied (m + kept_cuts made) (saved_room * depth) activities olds olds₁ → Copied (m + kept_cuts made) (saved_room * depth) reaches limits limits₁ → Saved n m made rows levels olds limits gones counts depth →
      Saved n m made rows (set levels depth here) olds₁ limits₁ (set gones depth (dropped_cuts made)) (set counts depth (m + kept_cuts made)) (depth + 1)
  saved-decided inputs lh gh ch tracked a b s = record { at = at }
    where
      at : (t : ℕ) → t < depth + 1 → SavedAt n m made rows (get_or (set levels depth here) t no_level).lower (get_or (set levels depth here) t no_level).upper olds₁ limits₁ (get_or (set gones depth (dropped_cuts made)) t 0) (get_or (set counts depth (m + kept_cuts made)) t 0) t
      at t h =
          ⊎_elim
          (λ (e : t ≡ depth). rw (e, get_or-set_same levels depth here no_level lh, get_or-set_same gones depth (dropped_cuts made) 0 gh, get_or-set_same counts depth (m + kept_cuts made) 0 ch) (saved-here inputs tracked a b))
          (λ (e : t < depth).
          rw (get_or-set_other levels depth t here no_level (λ z. omega arith), get_or-set_other gones depth t (dropped_cuts made) 0 (λ z. omega arith), get_or-set_other counts depth t (m + kept_cuts made) 0 (λ z. omega arith))
          (saved-before _ _ _ _ t e a b (s.at t e)))
          (eq-or-lt_of_le (omega arith))
