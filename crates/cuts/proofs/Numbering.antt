-- The cut's number, and the state that keeps it.
use Prim.Native.Nat.{ℕ, zero, suc, ◌+◌, ◌≤◌, ◌<◌}
use native.Mathlib.Omega.{arith}
use native.Mathlib.Nat.{eq-or-lt_of_le}
use mathlib.Core.Logic.{⊎_elim}
use mathlib.Core.Bool.{true, false}
use mathlib.Core.List.{List}
use mathlib.Core.Option.{none, some}
use Rattle.std.specs.Prelude.{Option, None, Some, MatchOption, IfSome}
use mathlib.Core.Path.{◌≡◌, refl, ap, ap₂, ◌∙◌}
use lib.IntN.{ℤ}
use Rattle.model_problems.specs.Lists.{tab}
use Rattle.model_problems.specs.Ranges.{max_variables}
use Rattle.model_problems.specs.Constraint.{Constraint, equal}
use Rattle.model_walk.specs.Search.{Level, Core, number_at, next_number, keep}
use Rattle.model_walk.specs.Conflict.{first_equal, numbered_by, numbered}
use Rattle.lists.proofs.Tab.{length-tab}
use Rattle.layout.specs.Rows.{constraint_at, row_at}
use Rattle.state.specs.View.{kept_cuts, core_over, core_with}
use Rattle.state.proofs.Cores.{kept-rows}
use Rattle.cuts.specs.Storing.{RowKept, NumberKept, found_at}

-- ---- the scan for an equal row: none equals it, or j is the first that does
module _ (f : ℕ → Constraint) (cut : Constraint) where
  none-equal : (i count : ℕ) → ((k : ℕ) → i ≤ k → k < i + count → equal cut (f k) ≡ false) → first_equal i (tab f i count) cut ≡ none
  unfolding first_equal tab
  none-equal i zero h = refl
  none-equal i (suc count) h = rw (h i (omega arith) (omega arith)) (none-equal (suc i) count (λ k a b. h k (omega arith) (omega arith)))

  first-equal : (i count j : ℕ) → i ≤ j → j < i + count → ((k : ℕ) → i ≤ k → k < j → equal cut (f k) ≡ false) → equal cut (f j) ≡ true → first_equal i (tab f i count) cut ≡ some j
  unfolding first_equal tab
  first-equal i zero j a b h t = absurd (omega arith)
  first-equal i (suc count) j a b h t =
      ⊎_elim
      (λ (e : i ≡ j). rw (e, t))
      (λ (l : i < j). rw (h i (omega arith) l) (first-equal (suc i) count j l (omega arith) (λ k x y. h k (omega arith) y) t))
      (eq-or-lt_of_le a)

  pub scanned : (count : ℕ) (found : Option ℕ) →
      MatchOption found ((k : ℕ) → 0 ≤ k → k < count → equal cut (f k) ≡ false)
      (λ j. (0 ≤ j) × (j < count) × (equal cut (f j) ≡ true) × ((k : ℕ) → 0 ≤ k → k < j → equal cut (f k) ≡ false)) →
      (first_equal 0 (tab f 0 count) cut ≡ found_at found) × IfSome found (λ j. j < count)
  unfolding found_at
  scanned count None h = (none-equal 0 count (λ k a b. h k a (omega arith)), tt)
  scanned count (Some j) h = (first-equal 0 count j h.0 (omega (arith, h.1)) h.3 h.2, h.1)

-- ---- the cut's number: that of the row that equals it, or the next one
module _ (n m made : ℕ) (rows : List ℤ) (numbers : List ℕ) (l : Level) (ls : List Level) (cut : Constraint) (found : Option ℕ)
    (e : first_equal 0 (tab (row_at n rows) 0 (m + kept_cuts made)) cut ≡ found_at found) where
  by-position : numbered (core_with n m made rows numbers l ls) cut ≡ numbered_by (core_with n m made rows numbers l ls) cut (found_at found)
  unfolding numbered
  by-position = let c = core_with n m made rows numbers l ls in ap (numbered_by c cut) (ap (λ (ks : List Constraint). first_equal 0 ks cut) (kept-rows n m made rows numbers l ls) ∙ e)

  pub numbered-equal : (j : ℕ) → found ≡ Some j → numbered (core_with n m made rows numbers l ls) cut ≡ record { number = number_at (core_with n m made rows numbers l ls) j; core = core_with n m made rows numbers l ls }
  unfolding numbered_by found_at
  numbered-equal j h = by-position ∙ rw h

  numbered_next : found ≡ None → numbered (core_with n m made rows numbers l ls) cut ≡ record { number = next_number (core_with n m made rows numbers l ls); core = keep cut (core_with n m made rows numbers l ls) }
  unfolding numbered_by found_at
  numbered_next h = by-position ∙ rw h

-- the number of the next cut
pub next-number : (n m made : ℕ) (rows : List ℤ) (numbers : List ℕ) (l : Level) (ls : List Level) → next_number (core_with n m made rows numbers l ls) ≡ m + made + 1
unfolding next_number core_over
next-number n m made rows numbers l ls = rw (length-tab (row_at n rows) 0 m) (omega arith)

keep-core : (n m made : ℕ) (rows cut rows' : List ℤ) (numbers numbers' : List ℕ) (l : Level) (ls : List Level) → n ≤ max_variables → RowKept m made rows cut rows' → NumberKept made (m + made + 1) numbers numbers' →
    keep (constraint_at n cut 0) (core_with n m made rows numbers l ls) ≡ core_with n m (made + 1) rows' numbers' l ls
unfolding keep core_over
keep-core n m made rows cut rows' numbers numbers' l ls few r k =
    let e = next-number n m made rows numbers l ls in
    let s : suc made ≡ made + 1 = omega arith in
    rw (e, ← k.kept, ← r.inputs n few, ← r.cuts n few, s)

pub numbered-kept : (n m made : ℕ) (rows cut rows' : List ℤ) (numbers numbers' : List ℕ) (l : Level) (ls : List Level) (found : Option ℕ) →
    first_equal 0 (tab (row_at n rows) 0 (m + kept_cuts made)) (constraint_at n cut 0) ≡ found_at found → found ≡ None →
    n ≤ max_variables → RowKept m made rows cut rows' → NumberKept made (m + made + 1) numbers numbers' →
    numbered (core_with n m made rows numbers l ls) (constraint_at n cut 0) ≡ record { number = m + made + 1; core = core_with n m (made + 1) rows' numbers' l ls }
numbered-kept n m made rows cut rows' numbers numbers' l ls found e h few r k =
    numbered_next n m made rows numbers l ls (constraint_at n cut 0) found e h ∙
    ap₂ (λ (number : ℕ) (c : Core). record { number = number; core = c }) (next-number n m made rows numbers l ls) (keep-core n m made rows cut rows' numbers numbers' l ls few r k)
