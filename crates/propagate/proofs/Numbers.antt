-- The number of a kept constraint is read back as that constraint's.
use Prim.Native.Nat.{ℕ, suc, ◌+◌, ◌-◌, ◌≤◌, ◌<◌, ◌^◌}
use native.Mathlib.Omega.{arith}
use mathlib.Core.Bool.{Bool, true, false, cond}
use mathlib.Core.Path.{◌≡◌}
use borrow.Author.Tests.{ne_eqb}
use lib.Dec.{ltb}
use Rattle.model_problems.specs.Ranges.{max_constraints, max_cuts, max_budget}
use Rattle.model_walk.specs.Search as model
use Rattle.state.specs.View.{reason_of, kept_cuts, number_for}

-- a number that no other reason has
pub reason-number : (k : ℕ) → 1 ≤ k → k < 2 ^ 63 → reason_of k ≡ model.constraint k
unfolding reason_of
reason-number k h l = rw (ne_eqb k 0 (λ e. omega arith), ne_eqb k (2 ^ 64 - 1) (λ e. omega arith), ne_eqb k (2 ^ 64 - 2) (λ e. omega arith))

module _ (m made p : ℕ) (inputs : m ≤ max_constraints) (cuts : made ≤ max_budget) (h : p < m + kept_cuts made) where
  number_small : (1 ≤ number_for m made p) × (number_for m made p < 2 ^ 63)
  unfolding number_for kept_cuts
  number_small = go (ltb p m)
    where
      go : (b : Bool) → (1 ≤ cond b (suc p) (suc (p + (made - max_cuts)))) × (cond b (suc p) (suc (p + (made - max_cuts))) < 2 ^ 63)
      go true = omega arith
      go false = omega arith

  pub number-reason : reason_of (number_for m made p) ≡ model.constraint (number_for m made p)
  number-reason = reason-number (number_for m made p) number_small.0 number_small.1
