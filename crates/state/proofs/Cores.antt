-- The view of a state after its levels changed.
use Prim.Native.Nat.{ℕ, zero, suc, ◌+◌, ◌-◌, ◌≤◌, ◌<◌}
use native.Mathlib.Omega.{arith}
use mathlib.Core.List.{List, [], ◌∷◌, ◌++◌}
use mathlib.Core.Logic.{◌≢◌}
use mathlib.Core.Path.{◌≡◌, refl, sym, ap, ap₂, fun_ext, ◌∙◌}
use lib.IntN.{ℤ}
use lib.ListN.{set, length, drop}
use lib.Seq.{get_or-set_same, get_or-set_other}
use Rattle.model_problems.specs.Lists.{tab}
use Rattle.model_problems.specs.Constraint.{Constraint}
use Rattle.model_walk.specs.Search as model
use Rattle.model_walk.specs.Conflict.{back_from, back_up}
use borrow.Author.Tests.{lt-ltb, le-ltb}
use Rattle.lists.proofs.Tab.{length-tab, tab-append, tab-ext, tab-ext-0}
use Rattle.layout.specs.Rows.{constraint_at, row_at, divided_at, input_at}
use Rattle.state.specs.View.{level_of, no_level, level_at, levels_from, kept_cuts, number_for, divisor_for, kept_at, core_over, core_with}
use Rattle.state.specs.declared.Level.{Level}

-- the kept constraints are one table of rows
pub kept-rows : (n m made : ℕ) (rows : List ℤ) (numbers : List ℕ) (l : model.Level) (ls : List model.Level) →
    model.kept (core_with n m made rows numbers l ls) ≡ tab (row_at n rows) 0 (m + kept_cuts made)
unfolding model.kept core_over
kept-rows n m made rows numbers l ls = let e : 0 + m ≡ m = omega arith in sym (tab-append (row_at n rows) 0 m (kept_cuts made) ∙ rw e)

-- the numbers of the kept constraints are the model's
pub number-over : (ts : List ℤ) (inputs : List Constraint) (n m made : ℕ) (rows : List ℤ) (numbers : List ℕ) (l : model.Level) (ls : List model.Level) → length inputs ≡ m →
    model.number_at (core_over ts inputs n m made rows numbers l ls) ≡ number_for m made
unfolding model.number_at model.dropped core_over number_for
number-over ts inputs n m made rows numbers l ls e = fun_ext (λ p. rw e)

pub number-at : (n m made : ℕ) (rows : List ℤ) (numbers : List ℕ) (l : model.Level) (ls : List model.Level) →
    model.number_at (core_with n m made rows numbers l ls) ≡ number_for m made
number-at n m made rows numbers l ls = number-over [] (tab (row_at n rows) 0 m) n m made rows numbers l ls (length-tab (row_at n rows) 0 m)

-- ---- the kept constraints of inputs with their divisors
input-kept : (n m : ℕ) (rows divisors : List ℤ) (j : ℕ) → j < m → input_at n rows divisors j ≡ kept_at n m rows divisors j
unfolding input_at kept_at divisor_for
input-kept n m rows divisors j h = rw (lt-ltb j m h)

pub cut-kept : (n m : ℕ) (rows divisors : List ℤ) (j : ℕ) → m ≤ j → row_at n rows j ≡ kept_at n m rows divisors j
unfolding row_at constraint_at divided_at kept_at divisor_for
cut-kept n m rows divisors j h = rw (le-ltb j m h)

pub kept-over : (ts : List ℤ) (n m made : ℕ) (rows divisors : List ℤ) (numbers : List ℕ) (l : model.Level) (ls : List model.Level) →
    model.kept (core_over ts (tab (input_at n rows divisors) 0 m) n m made rows numbers l ls) ≡ tab (kept_at n m rows divisors) 0 (m + kept_cuts made)
unfolding model.kept core_over
kept-over ts n m made rows divisors numbers l ls =
    let e : 0 + m ≡ m = omega arith in
    ap₂ ◌++◌ (tab-ext-0 (input_at n rows divisors) (kept_at n m rows divisors) m (λ j h. input-kept n m rows divisors j h))
    (tab-ext (row_at n rows) (kept_at n m rows divisors) m (kept_cuts made) (λ j h l. cut-kept n m rows divisors j h)) ∙
    sym (tab-append (kept_at n m rows divisors) 0 m (kept_cuts made) ∙ rw e)

-- ---- levels by depth
pub level-here : (n : ℕ) (levels : List Level) (d : ℕ) (l : Level) → d < length levels → level_at n (set levels d l) d ≡ level_of n l
unfolding level_at
level-here n levels d l h = ap (level_of n) (get_or-set_same levels d l no_level h)

pub level-other : (n : ℕ) (levels : List Level) (d k : ℕ) (l : Level) → d ≢ k → level_at n (set levels k l) d ≡ level_at n levels d
unfolding level_at
level-other n levels d k l e = ap (level_of n) (get_or-set_other levels k d l no_level e)

-- a store at depth k leaves the levels above it
pub levels-above : (n : ℕ) (levels : List Level) (d k : ℕ) (l : Level) → d ≤ k → levels_from n (set levels k l) d ≡ levels_from n levels d
unfolding levels_from
levels-above n levels zero k l h = refl
levels-above n levels (suc d) k l h =
    ap₂ (λ (x : model.Level) (xs : List model.Level). x ∷ xs) (level-other n levels d k l (λ e. omega arith)) (levels-above n levels d k l (omega arith))

pub length-levels : (n : ℕ) (levels : List Level) (d : ℕ) → length (levels_from n levels d) ≡ d
unfolding levels_from
length-levels n levels zero = refl
length-levels n levels (suc d) = ap suc (length-levels n levels d)

-- the levels from the one at depth e out, as dropping the deeper ones leaves them
pub levels-dropped : (n : ℕ) (levels : List Level) (d e : ℕ) → e ≤ d → drop (d - e) (level_at n levels d ∷ levels_from n levels d) ≡ level_at n levels e ∷ levels_from n levels e
unfolding levels_from
levels-dropped n levels d e h = go (d - e) d (omega arith)
  where
    go : (k d : ℕ) → d ≡ e + k → drop k (level_at n levels d ∷ levels_from n levels d) ≡ level_at n levels e ∷ levels_from n levels e
    go zero d q = let z : d ≡ e = omega arith in rw z
    go (suc k) zero q = let z : ⊥ = omega arith in absurd z
    go (suc k) (suc d) q = go k d (omega arith)

-- going back to level e + 1: level e with the decision of level e + 1 flipped
pub backed-up : (ts : List ℤ) (inputs : List Constraint) (n m made : ℕ) (rows : List ℤ) (numbers : List ℕ) (levels : List Level) (d e : ℕ) → suc e ≤ d →
    back_up (suc e) (core_over ts inputs n m made rows numbers (level_at n levels d) (levels_from n levels d)) ≡
    core_over ts inputs n m made rows numbers (model.flip_at ts (level_at n levels (suc e)).decided (level_at n levels e)) (levels_from n levels e)
unfolding back_up core_over model.levels model.depth
backed-up ts inputs n m made rows numbers levels d e h =
    rw (length-levels n levels d, levels-dropped n levels d (suc e) h) (unfold levels_from back_from model.with_levels in refl)
