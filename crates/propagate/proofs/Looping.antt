-- The invariant of propagation's loop, and that a bound which is set keeps it.
use Prim.Native.Nat.{ℕ, ◌+◌, ◌≤◌, ◌<◌}
use native.Mathlib.Omega.{arith}
use mathlib.Core.List.{List}
use mathlib.Core.Bool.{false}
use mathlib.Core.Path.{◌≡◌, refl, sym, subst, ◌∙◌}
use lib.IntN.{ℤ}
use lib.ListN.{get_or}
use Rattle.model_problems.specs.Constraint.{Constraint, falsified}
use Rattle.state.specs.View.{kept_cuts, number_for}
use Rattle.model_walk.specs.Move.{next_move, slack}
use Rattle.linear.specs.declared.activity.Bound.{Bound}
use Rattle.linear.specs.declared.activity.Bound.TheVariants.{Lower, Upper}
use Rattle.linear.specs.Improvement.{move_at}
use Rattle.state.specs.declared.Level.{Level}
use Rattle.layout.specs.Rows.{number_in, input_at, box_of}
use Rattle.propagate.specs.Propagation.{most_counted}
use Rattle.propagate.specs.Ready.{Ready, GapFree}
use Rattle.propagate.specs.Bounds.{rise_of, fall_of, bounded, past_gap}
use Rattle.propagate.specs.Tracked.{Tracked, Shiftable, Shifted}
use Rattle.bits.specs.Masks.{Opens}
use Rattle.bits.specs.Divided.{Columns, Testable, FirstIndivisible, Unmentioned}
use Rattle.propagate.specs.Apart.{kept_over, Apart, Warned}
use Rattle.propagate.proofs.Steps.{answer, scan-fits, Next, Sets, sets}
use Rattle.propagate.proofs.Tracking.{Closes, opens-closer, told-set, shiftable, scan-box}
use Rattle.propagate.proofs.Warning.{length_over, testable, warned, all-clear, bounded-spared}

-- from the level marked ₀; the decision variable does not change
pub record Loop (ts : List ℤ) (ks : List Constraint) (n m made : ℕ) (rows : List ℤ) (mask : ℕ) (level₀ : Level) (count₀ : ℕ) (level : Level) (activities reaches : List ℤ) (falsified count : ℕ) : Type 0 where
  pub ready : Ready n m made rows level
  pub gap_free : GapFree n ts level.lower level.upper
  pub same : answer ts ks n m made level₀ count₀ ≡ answer ts ks n m made level count
  pub decided : level.decided ≡ level₀.decided
  pub told : Warned ks n rows level.lower level.upper activities reaches (m + kept_cuts made) falsified
  pub opens : Opens n level.lower level.upper mask
  pub few : count + slack (box_of n level.lower level.upper) ≤ most_counted

bounded-decided : (l : Level) (i : ℕ) (b : Bound) (k : ℕ) → (bounded l i b k).decided ≡ l.decided
bounded-decided l i (Lower v) k = refl
bounded-decided l i (Upper v) k = refl

-- ---- a turn of the loop: nothing is falsified, the constraints are tracked, and the next move sets the bound b of variable i
pub record Turn (ts : List ℤ) (n m made : ℕ) (rows lines divisors : List ℤ) (columns : List ℕ) (mask : ℕ) (level₀ : Level) (count₀ : ℕ) (level : Level) (activities reaches reaches₁ : List ℤ) (count j i : ℕ) (b : Bound) : Type 0 where
  pub apart : Apart n m rows lines divisors
  pub due : Columns n m lines divisors columns
  pub loop : Loop ts (kept_over n m made rows lines divisors) n m made rows mask level₀ count₀ level activities reaches (m + kept_cuts made) count
  pub tracked : Tracked n rows level.lower level.upper activities reaches₁ (m + kept_cuts made)
  pub move : move_at j i b ≡ next_move (kept_over n m made rows lines divisors) (box_of n level.lower level.upper)

module _ {ts : List ℤ} {n m made : ℕ} {rows lines divisors : List ℤ} {columns : List ℕ} {mask : ℕ} {level₀ : Level} {count₀ : ℕ} {level : Level} {activities reaches reaches₁ : List ℤ} {count j i : ℕ} {b : Bound}
    (turn : Turn ts n m made rows lines divisors columns mask level₀ count₀ level activities reaches reaches₁ count j i b) where
  -- where the bound jumps
  abbrev jumped : Bound
  jumped = past_gap (number_in ts i) b

  pub turn-sets : Sets ts (kept_over n m made rows lines divisors) n m made rows level j i jumped
  turn-sets = sets ts (kept_over n m made rows lines divisors) n m made rows (length_over n m made rows lines divisors) level turn.loop.ready turn.loop.gap_free j i b turn.move

  pub turn-shiftable : Shiftable (m + kept_cuts made) i (rise_of i jumped level.lower) (fall_of i jumped level.upper) rows activities
  turn-shiftable = shiftable _ _ _ _ _ _ _ _ _ _ (scan-fits _ _ _ _ _ turn.loop.ready) turn.tracked turn-sets.next.variable turn-sets.rise turn-sets.fall

  -- the level after it
  module _ (level₁ : Level) (set : level₁ ≡ bounded level i jumped (number_for m made j)) where
    next : Next ts (kept_over n m made rows lines divisors) n m made rows level j i level₁
    next = rw set turn-sets.next

    pub turn-testable : Testable n m lines divisors level₁.lower level₁.upper (get_or columns i 0)
    turn-testable =
        let k = next.ready in
        testable _ _ _ _ _ _ _ _ turn.apart k.few k.inputs (scan-box (scan-fits _ _ _ _ _ k) k.whole.lower k.whole.upper) (turn.due.at i next.variable).few

    pub turn-less : slack (box_of n level₁.lower level₁.upper) < slack (box_of n level.lower level.upper)
    turn-less = next.less

    closes : Closes n rows level.lower level.upper level₁.lower level₁.upper i (rise_of i jumped level.lower) (fall_of i jumped level.upper)
    closes = subst (λ (l : Level). Closes n rows level.lower level.upper l.lower l.upper i (rise_of i jumped level.lower) (fall_of i jumped level.upper)) (sym set) turn-sets.closes

    spared : (k : ℕ) → k < m → Unmentioned lines i k → falsified (input_at n lines divisors k) (box_of n level₁.lower level₁.upper) ≡ false
    spared k h z =
        let w = turn.loop.ready in
        subst (λ (l : Level). falsified (input_at n lines divisors k) (box_of n l.lower l.upper) ≡ false) (sym set)
        (bounded-spared n m lines divisors level i (number_for m made j) jumped next.variable (omega (arith, w.few, w.whole.lower)) (omega (arith, w.few, w.whole.upper)) (all-clear _ _ _ _ _ _ _ _ _ _ turn.loop.told) k h z)

    pub turn-again : (activities₁ : List ℤ) (told r : ℕ) → Shifted (m + kept_cuts made) i (rise_of i jumped level.lower) (fall_of i jumped level.upper) rows activities activities₁ told →
        FirstIndivisible n m lines divisors level₁.lower level₁.upper (get_or columns i 0) told r →
        Loop ts (kept_over n m made rows lines divisors) n m made rows mask level₀ count₀ level₁ activities₁ reaches₁ r (count + 1)
    turn-again activities₁ told r s f =
        let k = next.ready in
        record {
          ready = k;
          gap_free = next.gap_free;
          same = turn.loop.same ∙ next.same count;
          decided = rw set (bounded-decided level i jumped (number_for m made j)) ∙ turn.loop.decided;
          told = warned _ _ _ _ _ _ _ _ _ _ turn.apart _ _ _ (Unmentioned lines i)
              (told-set n (m + kept_cuts made) rows level.lower level.upper level₁.lower level₁.upper activities reaches₁ activities₁ i told _ _ turn.tracked (scan-fits _ _ _ _ _ k) k.whole.lower k.whole.upper closes s)
              f (turn.due.at i next.variable) spared;
          opens = opens-closer _ _ _ _ _ _ _ _ _ _ closes turn.loop.opens;
          few = omega (arith, turn.loop.few, next.less);
        }
