-- Implied bounds: the test for an improvement without division.
use Prim.Native.Nat.{ℕ, zero, suc}
use native.Mathlib.Omega.{arith}
use mathlib.Core.Logic.{⊎_elim}
use mathlib.Core.Option.{none}
use mathlib.Core.Path.{◌≡◌, refl}
use lib.IntN.{ℤ, pos, negsuc, neg_ℤ, ◌+ℤ◌, ◌-ℤ◌, ◌*ℤ◌}
use lib.Signed.{◌≤ℤ◌, ◌<ℤ◌}
use Rattle.std.specs.Prelude.{Some}
use Rattle.model_problems.specs.Division.{floor_div, ceil_div}
use Rattle.model_problems.specs.Constraint.{Bounds, term, implied_upper, implied_lower}
use Rattle.model_walk.specs.Move.{improvement_at}
use Rattle.integer.specs.Parts.{le_in, le_out}
use Rattle.integer.specs.Expression as E
use Rattle.integer.specs.Expression.{Rep, rep, var, nat, of_le, of_lt}
use Rattle.integer.specs.Order.{≤-or-<}
use Rattle.integer.specs.Rounding.{floor-max, floor-only}
use Rattle.integer.specs.Tests.{lt-lt_z, le-lt_z}
use Rattle.linear.specs.Improvement.{move_at, move_of, implied_of, Improves}
use Rattle.linear.specs.Reach.{span_of}

-- ---- v is within the upper bound of a constraint, of activity p without the variable, exactly where p + d·v ≤ 0
module _ (p v : ℤ) (k : ℕ) where
  within-upper : (p +ℤ pos (suc k) *ℤ v) ≤ℤ pos 0 → v ≤ℤ implied_upper p (suc k)
  unfolding implied_upper
  within-upper h =
      let x = var p in let y = var v in
      let q : Rep (neg_ℤ p) = search rep in
      record { le = le_out v _ (floor-max (neg_ℤ p) (suc k) v (omega arith) (omega (arith, q.ok, of_le (search rep) (nat 0) h))) }

  above-upper : pos 0 <ℤ (p +ℤ pos (suc k) *ℤ v) → implied_upper p (suc k) <ℤ v
  unfolding implied_upper
  above-upper h =
      let x = var p in let y = var v in
      let q : Rep (neg_ℤ p) = search rep in
      ⊎_elim
      (λ (m : v ≤ℤ floor_div (neg_ℤ p) (suc k)). absurd (omega (arith, q.ok, floor-only (neg_ℤ p) (suc k) v (omega arith) (le_in v _ m.le), of_lt (nat 0) (search rep) h)))
      (λ m. m) (≤-or-< v (floor_div (neg_ℤ p) (suc k)))

  -- the lower bound is the upper one negated
  within-lower : neg_ℤ v ≤ℤ implied_upper p (suc k) → implied_lower p (suc k) ≤ℤ v
  unfolding implied_upper implied_lower ceil_div
  within-lower h = let x = var v in let y = var (floor_div (neg_ℤ p) (suc k)) in E.le (search rep) (search rep) (omega (arith, of_le (search rep) (search rep) h))

  below-lower : implied_upper p (suc k) <ℤ neg_ℤ v → v <ℤ implied_lower p (suc k)
  unfolding implied_upper implied_lower ceil_div
  below-lower h = let x = var v in let y = var (floor_div (neg_ℤ p) (suc k)) in E.lt (search rep) (search rep) (omega (arith, of_lt (search rep) (search rep) h))

-- ---- the test without division. w is the activity, −w the slack; the implied bound is better than the one held exactly when −w is below the span,
-- and never crosses the other one
abbrev bounds_of : ℤ → ℤ → Bounds
bounds_of l u = record { lower = l; upper = u }

module _ (w l u : ℤ) where
  -- a slack that is not negative is below no span of 0
  pub improved-nonzero : (a : ℤ) → w ≤ℤ pos 0 → (pos 0 -ℤ w) <ℤ span_of a (bounds_of l u) → a ≡ pos 0 → ⊥
  unfolding span_of
  improved-nonzero a h t e =
      let x = var w in let y = var l in let z = var u in
      omega (arith, of_le x (nat 0) h, of_lt (search rep) (search rep) (rw e at t))

  -- the slack is below the span
  pub improved : (a : ℤ) → w ≤ℤ pos 0 → (pos 0 -ℤ w) <ℤ span_of a (bounds_of l u) →
      ((j i : ℕ) → move_of j i (Some (implied_of (w -ℤ term a (bounds_of l u)) a)) ≡ improvement_at j i (w -ℤ term a (bounds_of l u)) a (bounds_of l u)) ×
      Improves l u (implied_of (w -ℤ term a (bounds_of l u)) a)
  unfolding move_of move_at implied_of improvement_at term span_of
  improved (pos zero) h t = absurd (improved-nonzero (pos zero) h t refl)
  improved (pos (suc k)) h t =
      let x = var w in let y = var l in let z = var u in
      let better = above-upper (w -ℤ pos (suc k) *ℤ l) u k (E.lt (nat 0) (search rep) (omega (arith, of_lt (search rep) (search rep) t))) in
      ((λ j i. rw (lt-lt_z better)), (within-upper (w -ℤ pos (suc k) *ℤ l) l k (E.le (search rep) (nat 0) (omega (arith, of_le x (nat 0) h))), better))
  improved (negsuc k) h t =
      let x = var w in let y = var l in let z = var u in
      let p = w -ℤ negsuc k *ℤ u in
      let better = below-lower p l k (above-upper p (neg_ℤ l) k (E.lt (nat 0) (search rep) (omega (arith, of_lt (search rep) (search rep) t)))) in
      ((λ j i. rw (lt-lt_z better)), (better, within-lower p u k (within-upper p (neg_ℤ u) k (E.le (search rep) (nat 0) (omega (arith, of_le x (nat 0) h))))))

  -- and where it is not
  pub unimproved : (a : ℤ) → span_of a (bounds_of l u) ≤ℤ (pos 0 -ℤ w) → (j i : ℕ) → none ≡ improvement_at j i (w -ℤ term a (bounds_of l u)) a (bounds_of l u)
  unfolding improvement_at term span_of
  unimproved (pos zero) t j i = refl
  unimproved (pos (suc k)) t j i =
      let x = var w in let y = var l in let z = var u in
      rw (le-lt_z (within-upper (w -ℤ pos (suc k) *ℤ l) u k (E.le (search rep) (nat 0) (omega (arith, of_le (search rep) (search rep) t)))))
  unimproved (negsuc k) t j i =
      let x = var w in let y = var l in let z = var u in
      let p = w -ℤ negsuc k *ℤ u in
      rw (le-lt_z (within-lower p l k (within-upper p (neg_ℤ l) k (E.le (search rep) (nat 0) (omega (arith, of_le (search rep) (search rep) t))))))
