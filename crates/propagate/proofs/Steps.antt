-- One turn of propagation's loop: a bound that is set keeps what propagation asks, leaves its answer as it was, and lowers the slack.
use Prim.Native.Nat.{ℕ, suc, ◌+◌, ◌<◌}
use native.Mathlib.Omega.{arith}
use native.Mathlib.Numerals.{add-one}
use mathlib.Core.List.{List}
use mathlib.Core.Path.{◌≡◌, sym, ap, subst, ◌∙◌}
use lib.Dec.{lit≤}
use lib.IntN.{ℤ}
use lib.ListN.{length, length-set}
use Rattle.model_problems.specs.Constraint.{Constraint, Box}
use Rattle.model_problems.specs.Threshold.{lifted, sunk}
use Rattle.model_walk.specs.Search as model
use Rattle.model_walk.specs.Move.{Move, conflict, new_lower, new_upper, decide, finish, next_move, slack}
use Rattle.integer.specs.Size.{Within, weaken}
use Rattle.lists.proofs.Bools.{true_of}
use Rattle.linear.specs.Ranges.{widest_change}
use Rattle.linear.proofs.Ranges.{lower-within, upper-within}
use Rattle.layout.specs.Rows.{number_in, box_of, thresholds_of}
use Rattle.layout.proofs.Rows.{length-box, lower-at, upper-at, box-lower, box-upper}
use Rattle.state.specs.View.{kept_cuts, level_of, number_for}
use Rattle.state.specs.Change.{Whole}
use Rattle.state.specs.declared.Level.{Level}
use Rattle.state.proofs.Levels.{threshold-at, level-raised, level-lowered}
use Rattle.validity.proofs.Thresholds.{lifts, sinks, Outside, outside-in, outside-out}
use Rattle.validity.proofs.Boxes.{Ordered}
use Rattle.validity.proofs.Moves.{Raises, Lowers, Chosen, next-chosen}
use Rattle.validity.proofs.Shrinking.{Shrinks, raise-shrinks, lower-shrinks}
use Rattle.validity.proofs.Tests.{range-ordered, range-nested}
use Rattle.propagate.specs.Propagation.{Propagation, propagate_by, propagation, propagation_of}
use Rattle.propagate.specs.Moves.{stop_of}
use Rattle.propagate.specs.declared.propagate.Found.{Found}
use Rattle.propagate.specs.declared.propagate.Found.TheVariants.{Conflict, Decide, Finish}
use Rattle.propagate.specs.Ready.{Ready, GapFree}
use Rattle.propagate.specs.Tracked.{ScanFits}
use Rattle.linear.specs.declared.activity.Bound.{Bound}
use Rattle.linear.specs.declared.activity.Bound.TheVariants.{Lower, Upper}
use Rattle.linear.specs.Improvement.{move_at}
use Rattle.propagate.specs.Bounds.{SettableAt, rise_of, fall_of, bounded, past_gap}
use Rattle.propagate.proofs.Tracking.{number_same, rise-size, fall-size, Closes, raised-closes, lowered-closes}
use Rattle.propagate.proofs.Fuel.{propagation-next}
use Rattle.propagate.proofs.Numbers.{number-reason}

-- the box of a level, and what it leaves to propagation
abbrev pub box_at : ℕ → Level → Box
box_at n l = box_of n l.lower l.upper

-- with the kept constraints ks, and so many bounds set before
unfoldable pub answer : List ℤ → List Constraint → ℕ → ℕ → ℕ → Level → ℕ → Propagation
answer ts ks n m made l count = propagation (thresholds_of n ts) ks (number_for m made) (level_of n l) count

-- what the scans ask
pub scan-fits : (n m made : ℕ) (rows : List ℤ) (l : Level) → Ready n m made rows l → ScanFits n (m + kept_cuts made) rows l.lower l.upper
unfolding kept_cuts
scan-fits n m made rows l r = record { few = r.few; count = omega (arith, r.inputs); constraints = r.constraints; bounds = r.bounds }

-- constraint j sets a bound of variable i, which leaves the level k
pub record Next (ts : List ℤ) (ks : List Constraint) (n m made : ℕ) (rows : List ℤ) (l : Level) (j i : ℕ) (k : Level) : Type 0 where
  pub constraint : j < m + kept_cuts made
  pub variable : i < n
  pub ready : Ready n m made rows k
  pub gap_free : GapFree n ts k.lower k.upper
  pub same : (count : ℕ) → answer ts ks n m made l count ≡ answer ts ks n m made k (count + 1)
  pub less : slack (box_at n k) < slack (box_at n l)

-- constraint j sets the bound b of variable i
pub record Sets (ts : List ℤ) (ks : List Constraint) (n m made : ℕ) (rows : List ℤ) (l : Level) (j i : ℕ) (b : Bound) : Type 0 where
  pub next : Next ts ks n m made rows l j i (bounded l i b (number_for m made j))
  pub settable : SettableAt i b l
  pub rise : Within widest_change (rise_of i b l.lower)
  pub fall : Within widest_change (fall_of i b l.upper)
  pub closes : Closes n rows l.lower l.upper (bounded l i b (number_for m made j)).lower (bounded l i b (number_for m made j)).upper i (rise_of i b l.lower) (fall_of i b l.upper)

module _ (ts : List ℤ) (ks : List Constraint) (n m made : ℕ) (rows : List ℤ) (long : length ks ≡ m + kept_cuts made) (l : Level) (r : Ready n m made rows l) (a : GapFree n ts l.lower l.upper) where
  ordered : Ordered (box_at n l)
  ordered = range-ordered (box_at n l) r.bounds

  outside : Outside (thresholds_of n ts) (box_at n l)
  outside = outside-in (thresholds_of n ts) (box_at n l) a.outside

  -- the answer is what the next move leads to
  follows : (count : ℕ) (move : Move) → move ≡ next_move ks (box_at n l) →
      answer ts ks n m made l count ≡ propagate_by (thresholds_of n ts) move (number_for m made) (level_of n l) count (propagation (thresholds_of n ts) ks (number_for m made))
  unfolding answer level_of
  follows count move e =
      propagation-next (thresholds_of n ts) ks (number_for m made) (level_of n l) count ordered outside ∙
      ap (λ (x : Move). propagate_by (thresholds_of n ts) x (number_for m made) (level_of n l) count (propagation (thresholds_of n ts) ks (number_for m made))) (sym e)

  chosen : (move : Move) → move ≡ next_move ks (box_at n l) → Chosen ks (box_at n l) move
  chosen move e = subst (Chosen ks (box_at n l)) (sym e) (next-chosen ks (box_at n l) ordered)

  -- a level with a smaller box
  nested-next : (j i : ℕ) (k : Level) → (j < m + kept_cuts made) × (i < n) → Whole k → Shrinks (thresholds_of n ts) (box_at n k) (box_at n l) →
      ((count : ℕ) → answer ts ks n m made l count ≡ answer ts ks n m made k (count + 1)) → Next ts ks n m made rows l j i k
  nested-next j i k places w s e =
      record {
        constraint = places.0;
        variable = places.1;
        ready = record {
          few = r.few;
          inputs = r.inputs;
          cuts = r.cuts;
          whole = w;
          constraints = r.constraints;
          bounds = range-nested (box_at n k) (box_at n l) s.ordered s.nested r.bounds;
        };
        gap_free = record { long = a.long; outside = outside-out (thresholds_of n ts) (box_at n k) s.outside };
        same = e;
        less = s.less;
      }

  -- ---- the next move sets the bound b of variable i, past the gap
  module _ (j i : ℕ) where
    raises : (v : ℤ) → new_lower j i v ≡ next_move ks (box_at n l) → Raises ks (box_at n l) j i v
    raises v e = chosen (new_lower j i v) e

    lowers : (v : ℤ) → new_upper j i v ≡ next_move ks (box_at n l) → Lowers ks (box_at n l) j i v
    lowers v e = chosen (new_upper j i v) e

    places : (b : Bound) → move_at j i b ≡ next_move ks (box_at n l) → (j < m + kept_cuts made) × (i < n)
    unfolding move_at
    places (Lower v) e = let w = raises v e in (omega (arith, w.constraint, long), omega (arith, w.variable, length-box n l.lower l.upper))
    places (Upper v) e = let w = lowers v e in (omega (arith, w.constraint, long), omega (arith, w.variable, length-box n l.lower l.upper))

    -- the level after it
    abbrev after : Bound → Level
    after b = bounded l i (past_gap (number_in ts i) b) (number_for m made j)

    whole : (b : Bound) → Whole (after b)
    whole (Lower v) = let w = r.whole in record { lower = length-set l.lower i _ ∙ w.lower; upper = w.upper; below = length-set l.below i _ ∙ w.below; above = w.above }
    whole (Upper v) = let w = r.whole in record { lower = w.lower; upper = length-set l.upper i _ ∙ w.upper; below = w.below; above = length-set l.above i _ ∙ w.above }

    -- it is the model's
    level : (b : Bound) → move_at j i b ≡ next_move ks (box_at n l) → (count : ℕ) →
        propagate_by (thresholds_of n ts) (move_at j i b) (number_for m made) (level_of n l) count (propagation (thresholds_of n ts) ks (number_for m made)) ≡
        propagation (thresholds_of n ts) ks (number_for m made) (level_of n (after b)) (suc count)
    unfolding move_at propagate_by model.raise_lower model.lower_upper
    level (Lower v) e count =
        let p = places (Lower v) e in
        rw (level-raised n l r.whole r.few i (lifted (number_in ts i) v) (number_for m made j) p.1, number-reason m made j r.inputs r.cuts p.0, threshold-at n ts i p.1)
    level (Upper v) e count =
        let p = places (Upper v) e in
        rw (level-lowered n l r.whole r.few i (sunk (number_in ts i) v) (number_for m made j) p.1, number-reason m made j r.inputs r.cuts p.0, threshold-at n ts i p.1)

    shrinks : (b : Bound) → move_at j i b ≡ next_move ks (box_at n l) → Shrinks (thresholds_of n ts) (box_at n (after b)) (box_at n l)
    unfolding move_at
    shrinks (Lower v) e =
        let h = (places (Lower v) e).1 in
        rw (box-lower n l.lower l.upper i (lifted (number_in ts i) v) h (omega (arith, r.whole.lower, r.few)), ← threshold-at n ts i h)
        (raise-shrinks (thresholds_of n ts) ks (box_at n l) j i v ordered outside (raises v e))
    shrinks (Upper v) e =
        let h = (places (Upper v) e).1 in
        rw (box-upper n l.lower l.upper i (sunk (number_in ts i) v) h (omega (arith, r.whole.upper, r.few)), ← threshold-at n ts i h)
        (lower-shrinks (thresholds_of n ts) ks (box_at n l) j i v ordered outside (lowers v e))

    next : (b : Bound) → move_at j i b ≡ next_move ks (box_at n l) → Next ts ks n m made rows l j i (after b)
    unfolding answer
    next b e =
        nested-next j i (after b) (places b e) (whole b) (shrinks b e)
        (λ count. follows count (move_at j i b) e ∙ level b e count ∙ ap (propagation (thresholds_of n ts) ks (number_for m made) (level_of n (after b))) (sym (add-one count)))

    pub sets : (b : Bound) → move_at j i b ≡ next_move ks (box_at n l) → Sets ts ks n m made rows l j i (past_gap (number_in ts i) b)
    unfolding move_at
    sets (Lower v) e =
        let x = next (Lower v) e in
        let h = x.variable in
        let room : i < length l.lower = omega (arith, r.whole.lower, r.few) in
        let rise = rw (number_same l.lower i (lifted (number_in ts i) v) room) at (rise-size (scan-fits n m made rows l r) (scan-fits n m made rows (after (Lower v)) x.ready) i h) in
        let better = rw (lower-at n l.lower l.upper i h) at (raises v e).better in
        record {
          next = x;
          settable = record { variable = omega (arith, r.few); old = weaken (lit≤ tt) (lower-within n l.lower l.upper (true_of _ r.bounds) i h); change = rise };
          rise = rise;
          fall = record { within = omega arith };
          closes = raised-closes n rows l.lower l.upper i (lifted (number_in ts i) v) h (omega (arith, r.whole.lower, r.few)) (omega (arith, (lifts (number_in ts i) v).above, better));
        }
    sets (Upper v) e =
        let x = next (Upper v) e in
        let h = x.variable in
        let room : i < length l.upper = omega (arith, r.whole.upper, r.few) in
        let fall = rw (number_same l.upper i (sunk (number_in ts i) v) room) at (fall-size (scan-fits n m made rows l r) (scan-fits n m made rows (after (Upper v)) x.ready) i h) in
        let better = rw (upper-at n l.lower l.upper i h) at (lowers v e).better in
        record {
          next = x;
          settable = record { variable = omega (arith, r.few); old = weaken (lit≤ tt) (upper-within n l.lower l.upper (true_of _ r.bounds) i h); change = fall };
          rise = record { within = omega arith };
          fall = fall;
          closes = lowered-closes n rows l.lower l.upper i (sunk (number_in ts i) v) h (omega (arith, r.whole.upper, r.few)) (omega (arith, (sinks (number_in ts i) v).below, better));
        }

  -- where the next move sets no bound, it is the answer
  pub stop-answer : (found : Found) (count : ℕ) → stop_of found ≡ next_move ks (box_at n l) → propagation_of n l (record { found = found; count = count }) ≡ answer ts ks n m made l count
  unfolding propagate_by propagation_of stop_of
  stop-answer (Conflict j) count e = sym (follows count (conflict j) e)
  stop-answer (Decide i) count e = sym (follows count (decide i) e)
  stop-answer Finish count e = sym (follows count finish e)
