-- The divisor constraints that a changed level asks to test, and the first falsified constraint after the test: at a decision, and at a level that the
-- search goes back to.
use Prim.Native.Nat.{ℕ, ◌+◌, ◌≤◌, ◌<◌, ◌^◌}
use mathlib.Core.Bool.{false}
use mathlib.Core.List.{List}
use mathlib.Core.Logic.{⊎_elim}
use mathlib.Core.Path.{◌≡◌, ◌∙◌}
use lib.IntN.{ℤ}
use lib.ListN.{set, length, length-set}
use Rattle.model_problems.specs.Constraint.{falsified}
use Rattle.lists.proofs.Bools.{lt-or-le}
use Rattle.layout.specs.Rows.{input_at, box_of}
use Rattle.layout.proofs.Rows.{box-lower, box-upper}
use Rattle.state.specs.View.{kept_cuts}
use Rattle.propagate.specs.Tracked.{Told}
use Rattle.bits.specs.Divided.{Due, Everyone, Unmentioned, FirstIndivisible}
use Rattle.propagate.specs.Apart.{kept_over, Apart, Warned}
use Rattle.linear.specs.Ranges.{BoxFits}
use Rattle.propagate.proofs.Tracking.{scan-box}
use Rattle.backtrack.specs.Jumps.{Flippable, next_in}
use Rattle.propagate.proofs.Warning.{warned, raise-spared, lower-spared}

-- the box of a level whose decision is flipped
pub flipped-box : {n m made : ℕ} {thresholds rows lower upper : List ℤ} {i depth : ℕ} {olds limits : List ℤ} {gones counts : List ℕ} → Flippable n m made thresholds rows lower upper i depth olds limits gones counts →
    {lower₁ : List ℤ} → lower₁ ≡ set lower i (next_in thresholds lower i) → BoxFits n lower₁ upper
flipped-box {lower = lower} {i = i} f e = rw e (scan-box f.next (length-set lower i _ ∙ f.lowers) f.uppers)

module _ (n m made : ℕ) (rows lines divisors lower upper activities reaches : List ℤ) (a : Apart n m rows lines divisors) (i : ℕ) (v : ℤ) (h : i < n) where
  -- an upper bound falls where no input is falsified
  pub decided-warned : (upper₁ : List ℤ) → upper₁ ≡ set upper i v → (column limit r : ℕ) → i < length upper → ((j : ℕ) → j < m → falsified (input_at n lines divisors j) (box_of n lower upper) ≡ false) → Due m divisors (Unmentioned lines i) column →
      Told n rows lower upper₁ activities reaches (m + kept_cuts made) limit → FirstIndivisible n m lines divisors lower upper₁ column limit r →
      Warned (kept_over n m made rows lines divisors) n rows lower upper₁ activities reaches (m + kept_cuts made) r
  decided-warned upper₁ e column limit r l clear d t f =
      warned n m made rows lines divisors lower upper₁ activities reaches a column limit r (Unmentioned lines i) t f d
      (λ j g z. rw (e, box-upper n lower upper i v h l) (lower-spared n m lines divisors lower upper clear i v h j g z))

  -- a lower bound rises at a level that is clear if it lies at depth `low` or deeper
  module _ (divided column due depth low : ℕ) (whole : depth < low → due ≡ divided) (part : low ≤ depth → due ≡ column) (d : Due m divisors Everyone divided) (c : Due m divisors (Unmentioned lines i) column) where
    pub due-few : due < 2 ^ m
    due-few = ⊎_elim (λ (l : depth < low). rw (whole l) d.few) (λ (l : low ≤ depth). rw (part l) c.few) (lt-or-le depth low)

    pub flipped-warned : (lower₁ : List ℤ) → lower₁ ≡ set lower i v → (limit r : ℕ) → i < length lower → (low ≤ depth → (j : ℕ) → j < m → falsified (input_at n lines divisors j) (box_of n lower upper) ≡ false) →
        Told n rows lower₁ upper activities reaches (m + kept_cuts made) limit → FirstIndivisible n m lines divisors lower₁ upper due limit r →
        Warned (kept_over n m made rows lines divisors) n rows lower₁ upper activities reaches (m + kept_cuts made) r
    flipped-warned lower₁ e limit r k clear t f =
        ⊎_elim
        (λ (l : depth < low). warned n m made rows lines divisors lower₁ upper activities reaches a divided limit r Everyone t (rw (whole l) at f) d (λ j g z. absurd z))
        (λ (l : low ≤ depth).
        warned n m made rows lines divisors lower₁ upper activities reaches a column limit r (Unmentioned lines i) t (rw (part l) at f) c
        (λ j g z. rw (e, box-lower n lower upper i v h k) (raise-spared n m lines divisors lower upper (clear l) i v h j g z)))
        (lt-or-le depth low)
