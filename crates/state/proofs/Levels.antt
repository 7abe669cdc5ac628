-- A changed level is the model's changed level.
use Prim.Native.Nat.{ℕ, ◌≤◌, ◌<◌}
use native.Mathlib.Omega.{arith}
use mathlib.Core.List.{List}
use mathlib.Core.Path.{◌≡◌, sym, ap, ap₂, ◌∙◌}
use lib.IntN.{ℤ, pos}
use lib.ListN.{get_or, set, length}
use lib.Seq.{get_or-set_same, get_or-set_other}
use Rattle.model_problems.specs.Lists.{tab}
use Rattle.model_problems.specs.Constraint.{Box, lower_at}
use Rattle.model_problems.specs.Threshold.{threshold_at, next_value}
use Rattle.model_walk.specs.Search as model
use Rattle.lists.proofs.Tab.{get_d-tab, set-tab}
use Rattle.layout.specs.Rows.{number_in, thresholds_of}
use Rattle.layout.proofs.Rows.{lower-at, box-lower, box-upper}
use Rattle.state.specs.View.{reason_of, reasons_in, decision_reason, flipped_reason, level_of}
use Rattle.state.specs.Change.{Whole, raised, lowered, decided_at}
use Rattle.state.specs.declared.Level.{Level}

-- ---- a reason stored at variable i
reasons-at : (n : ℕ) (below above : List ℕ) (i : ℕ) → i < n → model.reasons_at (tab (reasons_in below above) 0 n) i ≡ reasons_in below above i
unfolding model.reasons_at
reasons-at n below above i h = get_d-tab (reasons_in below above) n i model.no_reasons h

reasons-lower : (n : ℕ) (below above : List ℕ) (i k : ℕ) → i < n → i < length below →
    tab (reasons_in (set below i k) above) 0 n ≡ model.set_lower_reason i (reason_of k) (tab (reasons_in below above) 0 n)
unfolding model.set_lower_reason
reasons-lower n below above i k h l =
    rw (reasons-at n below above i h)
    (sym (set-tab (reasons_in below above) (reasons_in (set below i k) above) n i (record { lower = reason_of k; upper = (reasons_in below above i).upper })
    (unfold reasons_in in ap (λ (z : ℕ). record { lower = reason_of z; upper = reason_of (get_or above i 0) }) (get_or-set_same below i k 0 l))
    (λ j e. unfold reasons_in in ap (λ (z : ℕ). record { lower = reason_of z; upper = reason_of (get_or above j 0) }) (get_or-set_other below i j k 0 e))))

reasons-upper : (n : ℕ) (below above : List ℕ) (i k : ℕ) → i < n → i < length above →
    tab (reasons_in below (set above i k)) 0 n ≡ model.set_upper_reason i (reason_of k) (tab (reasons_in below above) 0 n)
unfolding model.set_upper_reason
reasons-upper n below above i k h l =
    rw (reasons-at n below above i h)
    (sym (set-tab (reasons_in below above) (reasons_in below (set above i k)) n i (record { lower = (reasons_in below above i).lower; upper = reason_of k })
    (unfold reasons_in in ap (λ (z : ℕ). record { lower = reason_of (get_or below i 0); upper = reason_of z }) (get_or-set_same above i k 0 l))
    (λ j e. unfold reasons_in in ap (λ (z : ℕ). record { lower = reason_of (get_or below j 0); upper = reason_of z }) (get_or-set_other above i j k 0 e))))

-- ---- a threshold
pub threshold-at : (n : ℕ) (thresholds : List ℤ) (i : ℕ) → i < n → threshold_at (thresholds_of n thresholds) i ≡ number_in thresholds i
unfolding threshold_at thresholds_of
threshold-at n thresholds i h = get_d-tab (number_in thresholds) n i (pos 0) h

-- ---- levels
module _ (n : ℕ) (l : Level) (w : Whole l) (few : n ≤ 32) where
  pub level-raised : (i : ℕ) (v : ℤ) (k : ℕ) → i < n → level_of n (raised l i v k) ≡ model.hold_lower i v (reason_of k) (level_of n l)
  unfolding level_of model.hold_lower
  level-raised i v k h =
      ap₂ (λ (b : Box) (rs : List model.Reasons). record { box = b; reasons = rs; decided = l.decided })
      (box-lower n l.lower l.upper i v h (omega (arith, w.lower))) (reasons-lower n l.below l.above i k h (omega (arith, w.below)))

  pub level-lowered : (i : ℕ) (v : ℤ) (k : ℕ) → i < n → level_of n (lowered l i v k) ≡ model.hold_upper i v (reason_of k) (level_of n l)
  unfolding level_of model.hold_upper
  level-lowered i v k h =
      ap₂ (λ (b : Box) (rs : List model.Reasons). record { box = b; reasons = rs; decided = l.decided })
      (box-upper n l.lower l.upper i v h (omega (arith, w.upper))) (reasons-upper n l.below l.above i k h (omega (arith, w.above)))

  pub level-decided : (i : ℕ) → i < n → level_of n (decided_at l i) ≡ model.decide_at i (level_of n l)
  unfolding level_of model.decide_at number_in reason_of
  level-decided i h =
      rw (lower-at n l.lower l.upper i h)
      (ap₂ (λ (b : Box) (rs : List model.Reasons). record { box = b; reasons = rs; decided = i })
      (box-upper n l.lower l.upper i (get_or l.lower i (pos 0)) h (omega (arith, w.upper)))
      (reasons-upper n l.below l.above i decision_reason h (omega (arith, w.above))))

  pub level-lower : (i : ℕ) → i < n → lower_at (level_of n l).box i ≡ number_in l.lower i
  unfolding level_of
  level-lower i h = lower-at n l.lower l.upper i h

  -- a decision that is flipped
  pub level-flipped : (thresholds : List ℤ) (i : ℕ) → i < n →
      level_of n (raised l i (next_value (number_in thresholds i) (number_in l.lower i)) flipped_reason) ≡ model.flip_at (thresholds_of n thresholds) i (level_of n l)
  unfolding model.flip_at
  level-flipped thresholds i h =
      level-raised i (next_value (number_in thresholds i) (number_in l.lower i)) flipped_reason h ∙
      (unfold reason_of in rw (level-lower i h, threshold-at n thresholds i h))
