-- The backjump level as the model has it.
use Prim.Native.Nat.{ℕ, zero, suc, ◌+◌, ◌-◌, ◌≤◌, ◌<◌}
use native.Mathlib.Omega.{arith}
use mathlib.Core.Bool.{true, false}
use mathlib.Core.List.{List, ◌∷◌}
use mathlib.Core.Option.{none, some}
use mathlib.Core.Path.{◌≡◌, refl}
use lib.IntN.{ℤ}
use Rattle.model_problems.specs.Lists.{or_else, with_default}
use Rattle.model_problems.specs.Constraint.{Constraint, falsified}
use Rattle.model_walk.specs.Search as model
use Rattle.model_walk.specs.Conflict.{least_falsified, backjump_level}
use Rattle.state.specs.View.{level_at, levels_from, core_over}
use Rattle.propagate.specs.Apart.{core_apart}
use Rattle.state.specs.declared.Level.{Level}
use Rattle.state.proofs.Cores.{length-levels}

-- the levels from 0 up to e do not falsify the cut
abbrev pub NoneBefore : ℕ → List Level → Constraint → ℕ → Type 0
NoneBefore n levels cut e = (k : ℕ) → k < e → falsified cut (level_at n levels k).box ≡ false

module _ (n : ℕ) (levels : List Level) (cut : Constraint) where
  least-none : (e : ℕ) → NoneBefore n levels cut e → least_falsified cut (levels_from n levels e) ≡ none
  unfolding least_falsified levels_from or_else
  least-none zero p = refl
  least-none (suc e) p = rw (least-none e (λ k h. p k (omega arith)), p e (omega arith))

  least_at : (d e : ℕ) → e ≤ d → NoneBefore n levels cut e → falsified cut (level_at n levels e).box ≡ true →
      least_falsified cut (level_at n levels d ∷ levels_from n levels d) ≡ some e
  unfolding least_falsified levels_from or_else
  least_at d e h p f = go (d - e) d (omega arith)
    where
      go : (k d : ℕ) → d ≡ e + k → least_falsified cut (level_at n levels d ∷ levels_from n levels d) ≡ some e
      go zero d q = let z : d ≡ e = omega arith in rw (z, least-none e p, f, length-levels n levels e)
      go (suc k) zero q = let z : ⊥ = omega arith in absurd z
      go (suc k) (suc d) q = rw (go k d (omega arith))

-- ---- the core after the level at the deepest depth was stored
module _ (thresholds lines divisors : List ℤ) (n m made : ℕ) (rows : List ℤ) (numbers : List ℕ) (levels : List Level) where
  pub backjump-found : (d e : ℕ) (cut : Constraint) → e ≤ d → NoneBefore n levels cut e → falsified cut (level_at n levels e).box ≡ true →
      backjump_level cut (core_apart thresholds n m made rows lines divisors numbers (level_at n levels d) (levels_from n levels d)) ≡ e
  unfolding backjump_level core_over model.levels with_default
  backjump-found d e cut h p f = rw (least_at n levels cut d e h p f)
