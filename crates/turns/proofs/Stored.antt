-- The levels of a core after the deepest was stored: the bounds of each are in range, and each lies under the one above it.
use Prim.Native.Nat.{ℕ, zero, suc, ◌+◌, ◌-◌, ◌≤◌, ◌<◌}
use native.Mathlib.Omega.{arith}
use mathlib.Core.List.{List, ◌∷◌}
use mathlib.Core.Path.{◌≡◌, subst}
use lib.Dec.{T}
use lib.IntN.{ℤ}
use lib.ListN.{set, length}
use Rattle.model_problems.specs.Lists.{all_of}
use Rattle.model_problems.specs.Problem.{bounds_in_range}
use Rattle.model_walk.specs.Search as model
use Rattle.validity.proofs.States.{Every, LevelFits, Under, Stacked, CoreFits}
use Rattle.state.specs.View.{level_at, levels_from, core_over}
use Rattle.propagate.specs.Apart.{core_apart}
use Rattle.state.specs.declared.Level.{Level}
use Rattle.state.proofs.Cores.{level-here, levels-above}
use Rattle.turns.proofs.Running.{core_here}

module _ (n : ℕ) (levels : List Level) where
  level-every : (P : model.Level → Type 0) (k j d : ℕ) → d ≡ k + j → Every P (level_at n levels d ∷ levels_from n levels d) → P (level_at n levels k)
  unfolding levels_from
  level-every P k zero d q e = let z : d ≡ k = omega arith in subst (λ (x : ℕ). P (level_at n levels x)) z e.0
  level-every P k (suc j) zero q e = let z : ⊥ = omega arith in absurd z
  level-every P k (suc j) (suc d) q e = level-every P k j d (omega arith) e.1

  level-under : (k j d : ℕ) → d ≡ suc k + j → Stacked n (level_at n levels d) (levels_from n levels d) → Under n (level_at n levels (suc k)) (level_at n levels k)
  unfolding levels_from
  level-under k zero d q s =
      let z : d ≡ suc k = omega arith in
      let t : Stacked n (level_at n levels (suc k)) (levels_from n levels (suc k)) = subst (λ (x : ℕ). Stacked n (level_at n levels x) (levels_from n levels x)) z s in
      t.0
  level-under k (suc j) zero q s = let z : ⊥ = omega arith in absurd z
  level-under k (suc j) (suc d) q s = level-under k j d (omega arith) s.1

module _ (thresholds lines divisors : List ℤ) (n m : ℕ) (rows : List ℤ) (numbers : List ℕ) (levels : List Level) (made depth : ℕ) (here : Level) (deep : depth < length levels)
    (f : CoreFits (core_here thresholds lines divisors n m rows numbers levels made depth here)) where
  stored : CoreFits (core_apart thresholds n m made rows lines divisors numbers (level_at n (set levels depth here) depth) (levels_from n (set levels depth here) depth))
  stored = rw (level-here n levels depth here deep, levels-above n levels depth depth here (omega arith)) f

  pub stored-range : (k : ℕ) → k ≤ depth → T (all_of bounds_in_range (level_at n (set levels depth here) k).box)
  unfolding core_over model.levels
  stored-range k h = (level-every n (set levels depth here) (LevelFits n _) k (depth - k) depth (omega arith) stored.levels).range

  pub stored-under : (k : ℕ) → k < depth → Under n (level_at n (set levels depth here) (suc k)) (level_at n (set levels depth here) k)
  unfolding core_over
  stored-under k h = level-under n (set levels depth here) k (depth - suc k) depth (omega arith) stored.stacked
