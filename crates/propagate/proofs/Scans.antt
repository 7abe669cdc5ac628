-- The scans as loops that count up: `whole` is the whole scan's answer, and the loop keeps that it is the answer of what is left.
use Prim.Native.Nat.{ℕ, zero, suc, ◌+◌, ◌-◌, ◌*◌, ◌≤◌, ◌<◌}
use native.Mathlib.Nat.{sub-zero}
use native.Mathlib.Omega.{arith}
use native.Mathlib.Numerals.{add-one}
use mathlib.Core.Bool.{true, false}
use mathlib.Core.List.{List}
use mathlib.Core.Option.{Option, none, some}
use mathlib.Core.Path.{◌≡◌, refl, sym, ◌∙◌}
use borrow.Author.Tests.{lt-ltb, le-ltb}
use lib.IntN.{ℤ, ◌-ℤ◌}
use lib.Signed.{lt_z}
use Rattle.model_problems.specs.Lists.{tab, or_else, with_default}
use Rattle.model_problems.specs.Constraint.{Constraint, Box, modulus, term, activity}
use Rattle.model_walk.specs.Move.{Move, conflict, finish, first_falsified, improvement_at, improvement_from, improvement_by, first_improvement, first_open, next_move}
use Rattle.lists.proofs.Tab.{tab-step, tab-end}
use Rattle.layout.specs.Rows.{row_length, number_in, cell, constraint_at, row_at, bounds_at, box_of}
use Rattle.std.specs.Prelude.{Some, None}
use Rattle.propagate.specs.Moves.{open_of, hit_at}

-- ---- what the scans find from a place on
unfoldable pub open_from : ℕ → List ℤ → List ℤ → ℕ → Option Move
open_from n lower upper i = first_open i (tab (bounds_at lower upper) i (n - i))

unfoldable pub improved_from : ℕ → ℕ → List ℤ → List ℤ → List ℤ → ℕ → Option Move
improved_from n kept rows lower upper j = first_improvement j (tab (row_at n rows) j (kept - j)) (box_of n lower upper)

-- in constraint j, from variable i on
unfoldable pub improved_after : ℕ → List ℤ → List ℤ → List ℤ → ℕ → ℕ → Option Move
improved_after n rows lower upper j i =
    improvement_from j i (activity (row_at n rows j) (box_of n lower upper)) (tab (cell rows (row_length * j)) i (n - i)) (tab (bounds_at lower upper) i (n - i))

-- in constraint j, at variable i
unfoldable pub improved_at : ℕ → List ℤ → List ℤ → List ℤ → ℕ → ℕ → Option Move
improved_at n rows lower upper j i =
    let a = cell rows (row_length * j) i in
    let b = bounds_at lower upper i in
    improvement_at j i (activity (row_at n rows j) (box_of n lower upper) -ℤ term a b) a b

-- ---- move 3
module _ (n : ℕ) (lower upper : List ℤ) where
  pub open-start : first_open 0 (box_of n lower upper) ≡ open_from n lower upper 0
  unfolding open_from box_of
  open-start = rw sub-zero

  module _ (whole : Option Move) (i : ℕ) (e : whole ≡ open_from n lower upper i) where
    pub open-hit : i < n → lt_z (number_in lower i) (number_in upper i) ≡ true → open_of (Some i) ≡ whole
    unfolding open_from first_open open_of bounds_at
    open-hit h t = sym (e ∙ rw (tab-step (bounds_at lower upper) n i h, t))

    pub open-miss : i < n → lt_z (number_in lower i) (number_in upper i) ≡ false → whole ≡ open_from n lower upper (i + 1)
    unfolding open_from first_open bounds_at
    open-miss h t = e ∙ rw (tab-step (bounds_at lower upper) n i h, t, add-one)

    pub open-end : n ≤ i → open_of None ≡ whole
    unfolding open_from first_open open_of
    open-end h = sym (e ∙ rw (tab-end (bounds_at lower upper) n i h))

-- ---- move 2
module _ (n kept : ℕ) (rows lower upper : List ℤ) where
  pub improved-start : first_improvement 0 (tab (row_at n rows) 0 kept) (box_of n lower upper) ≡ improved_from n kept rows lower upper 0
  unfolding improved_from
  improved-start = rw sub-zero

  module _ (whole : Option Move) (j : ℕ) where
    -- every constraint passed
    pub improved-done : whole ≡ improved_from n kept rows lower upper j → kept ≤ j → whole ≡ none
    unfolding improved_from first_improvement
    improved-done e h = e ∙ rw (tab-end (row_at n rows) kept j h)

    -- at the first variable of constraint j
    improved-enter : whole ≡ improved_from n kept rows lower upper j → j < kept →
        whole ≡ or_else (improved_after n rows lower upper j 0) (improved_from n kept rows lower upper (j + 1))
    unfolding improved_from first_improvement improvement_by modulus improved_after row_at constraint_at box_of
    improved-enter e h = e ∙ rw (tab-step (row_at n rows) kept j h, add-one, sub-zero)

    module _ (i : ℕ) (e : whole ≡ or_else (improved_after n rows lower upper j i) (improved_from n kept rows lower upper (j + 1))) where
      improved-hit : (m : Move) → i < n → improved_at n rows lower upper j i ≡ some m → whole ≡ some m
      unfolding improved_after improvement_from improved_at or_else
      improved-hit m h t = e ∙ rw (tab-step (cell rows (row_length * j)) n i h, tab-step (bounds_at lower upper) n i h, t)

      improved-miss : i < n → improved_at n rows lower upper j i ≡ none →
          whole ≡ or_else (improved_after n rows lower upper j (i + 1)) (improved_from n kept rows lower upper (j + 1))
      unfolding improved_after improvement_from improved_at or_else
      improved-miss h t = e ∙ rw (tab-step (cell rows (row_length * j)) n i h, tab-step (bounds_at lower upper) n i h, t, add-one)

  -- a constraint that improves no bound
  after_none : (j i c : ℕ) → ((k : ℕ) → i ≤ k → k < i + c → improved_at n rows lower upper j k ≡ none) →
      improvement_from j i (activity (row_at n rows j) (box_of n lower upper)) (tab (cell rows (row_length * j)) i c) (tab (bounds_at lower upper) i c) ≡ none
  unfolding tab improvement_from improved_at or_else
  after_none j i zero h = refl
  after_none j i (suc c) h = rw (h i (omega arith) (omega arith)) (after_none j (suc i) c (λ k l u. h k (omega arith) (omega arith)))

  -- the first variable whose bound constraint j improves
  pub improved-first : (whole : Option Move) (j i : ℕ) (m : Move) → whole ≡ improved_from n kept rows lower upper j → j < kept → i < n →
      ((k : ℕ) → k < i → improved_at n rows lower upper j k ≡ none) → improved_at n rows lower upper j i ≡ some m → whole ≡ some m
  improved-first whole j i m e h l miss t = improved-hit whole j i (past i (omega arith) miss) m l t
    where
      past : (i : ℕ) → i ≤ n → ((k : ℕ) → k < i → improved_at n rows lower upper j k ≡ none) → whole ≡ or_else (improved_after n rows lower upper j i) (improved_from n kept rows lower upper (j + 1))
      past zero l miss = improved-enter whole j e h
      past (suc i) l miss = rw (← add-one i) (improved-miss whole j i (past i (omega arith) (λ k q. miss k (omega arith))) (omega arith) (miss i (omega arith)))

  pub improved-skip : (whole : Option Move) (j : ℕ) → whole ≡ improved_from n kept rows lower upper j → j < kept → ((i : ℕ) → i < n → improved_at n rows lower upper j i ≡ none) →
      whole ≡ improved_from n kept rows lower upper (j + 1)
  unfolding improved_after or_else
  improved-skip whole j e h miss = improved-enter whole j e h ∙ rw (after_none j 0 (n - 0) (λ k l u. miss k (omega arith)))

-- ---- the next move, from what the scans found
module _ (ks : List Constraint) (box : Box) (kept j : ℕ) (e : hit_at conflict kept j ≡ first_falsified 0 ks box) where
  pub next-conflict : j < kept → conflict j ≡ next_move ks box
  unfolding next_move hit_at or_else with_default
  next-conflict h = rw (sym e, lt-ltb j kept h)

  module _ (h : kept ≤ j) where
    pub next-improvement : (m : Move) → some m ≡ first_improvement 0 ks box → m ≡ next_move ks box
    unfolding next_move hit_at or_else with_default
    next-improvement m f = rw (sym e, le-ltb j kept h, sym f)

    pub next-open : none ≡ first_improvement 0 ks box → with_default finish (first_open 0 box) ≡ next_move ks box
    unfolding next_move hit_at or_else with_default
    next-open f = rw (sym e, le-ltb j kept h, sym f)
