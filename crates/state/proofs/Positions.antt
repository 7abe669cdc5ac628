-- The kept constraints by number and by position.
use Prim.Native.Nat.{ℕ, zero, suc, ◌+◌, ◌-◌, ◌≤◌, ◌<◌}
use native.Mathlib.Omega.{arith}
use mathlib.Core.Option.{none, some}
use mathlib.Core.Logic.{⊎_elim}
use mathlib.Core.Path.{◌≡◌, refl, ap, ◌∙◌}
use borrow.Author.Tests.{lt-ltb, le-ltb}
use lib.ListN.{get_elem?}
use Rattle.model_problems.specs.Lists.{tab}
use Rattle.model_problems.specs.Ranges.{max_cuts}
use Rattle.model_walk.specs.Search.{dropped, kept_number}
use Rattle.lists.proofs.Bools.{lt-or-le}
use Rattle.lists.proofs.Tab.{length-tab}
use Rattle.layout.specs.Rows.{row_at}
use Rattle.state.specs.View.{kept_cuts, core_over}
use Rattle.std.specs.Prelude.{None, Some}
use Rattle.state.specs.Position.{constraint_in, PositionOf}

-- ---- an element that may be missing
elem-tab : {A : Type 0} (f : ℕ → A) (i c k : ℕ) → k < c → get_elem? (tab f i c) k ≡ some (f (i + k))
unfolding tab
elem-tab f i zero k h = absurd (omega arith)
elem-tab f i (suc c) zero h = ap (λ (x : ℕ). some (f x)) (omega arith)
elem-tab f i (suc c) (suc k) h = elem-tab f (suc i) c k (omega arith) ∙ ap (λ (x : ℕ). some (f x)) (omega arith)

elem_past : {A : Type 0} (f : ℕ → A) (i c k : ℕ) → c ≤ k → get_elem? (tab f i c) k ≡ none
unfolding tab
elem_past f i zero k h = refl
elem_past f i (suc c) zero h = absurd (omega arith)
elem_past f i (suc c) (suc k) h = elem_past f (suc i) c k (omega arith)

-- ---- the numbers, from 0 up
module _ (m made : ℕ) where
  pub position-zero : PositionOf m made 0 None
  unfolding kept_number constraint_in
  position-zero = record { inside = tt; found = λ n rows numbers l ls. refl }

  pub position-input : (number : ℕ) → 0 < number → number ≤ m → PositionOf m made number (Some (number - 1))
  unfolding kept_number core_over constraint_in
  position-input zero p h = absurd (omega arith)
  position-input (suc k) p h =
      let e : suc k - 1 ≡ k = omega arith in
      record {
        inside = omega arith;
        found = λ n rows numbers l ls. rw (length-tab (row_at n rows) 0 m, lt-ltb k m (omega arith), e) (elem-tab (row_at n rows) 0 m k (omega arith) ∙ ap (λ (j : ℕ). some (row_at n rows j)) (omega arith));
      }

  pub position-dropped : (number : ℕ) → m < number → number ≤ m + (made - max_cuts) → PositionOf m made number None
  unfolding kept_number core_over dropped constraint_in
  position-dropped zero p h = absurd (omega arith)
  position-dropped (suc k) p h = record { inside = tt; found = λ n rows numbers l ls. rw (length-tab (row_at n rows) 0 m, le-ltb k m (omega arith), lt-ltb k (m + (made - max_cuts)) (omega arith)) refl }

  pub position-cut : (number : ℕ) → m + (made - max_cuts) < number → number ≤ m + made → PositionOf m made number (Some (number - (made - max_cuts) - 1))
  unfolding kept_number core_over dropped kept_cuts constraint_in
  position-cut zero p h = absurd (omega arith)
  position-cut (suc k) p h =
      let e : suc k - (made - max_cuts) - 1 ≡ m + (k - (m + (made - max_cuts))) = omega arith in
      record {
        inside = omega arith;
        found = λ n rows numbers l ls.
            rw (length-tab (row_at n rows) 0 m, le-ltb k m (omega arith), le-ltb k (m + (made - max_cuts)) (omega arith), e)
            (elem-tab (row_at n rows) m (kept_cuts made) (k - (m + (made - max_cuts))) (omega arith));
      }

  pub position-beyond : (number : ℕ) → m + made < number → PositionOf m made number None
  unfolding kept_number core_over dropped kept_cuts constraint_in
  position-beyond zero p = absurd (omega arith)
  position-beyond (suc k) p =
      record {
        inside = tt;
        found = λ n rows numbers l ls.
            rw (length-tab (row_at n rows) 0 m, le-ltb k m (omega arith), le-ltb k (m + (made - max_cuts)) (omega arith)) (elem_past (row_at n rows) m (kept_cuts made) (k - (m + (made - max_cuts))) (omega arith));
      }

  -- a number that is no input's and no kept cut's
  pub position-none : (number : ℕ) → (0 < number → m < number) → (m + (made - max_cuts) < number → m + made < number) → PositionOf m made number None
  position-none zero a b = position-zero
  position-none (suc k) a b =
      ⊎_elim
      (λ (h : m + (made - max_cuts) < suc k). position-beyond (suc k) (b h))
      (λ (h : suc k ≤ m + (made - max_cuts)). position-dropped (suc k) (a (omega arith)) h)
      (lt-or-le (m + (made - max_cuts)) (suc k))
