-- Levels that nest: where one does not falsify a constraint, none above it does.
use Prim.Native.Nat.{ℕ, zero, suc, ◌≤◌, ◌<◌}
use native.Mathlib.Nat.{eq-or-lt_of_le}
use native.Mathlib.Omega.{arith}
use mathlib.Core.Bool.{Bool, true, false}
use mathlib.Core.List.{List}
use mathlib.Core.Logic.{⊎_elim}
use mathlib.Core.Path.{◌≡◌, refl}
use lib.Dec.{T}
use Rattle.model_problems.specs.Constraint.{Constraint, falsified}
use Rattle.lists.proofs.Bools.{true_of, clash}
use Rattle.validity.proofs.Tests.{range-ordered, nested-in}
use Rattle.validity.proofs.Constraints.{falsified-nested}
use Rattle.state.specs.declared.Level.{Level}
use Rattle.levels.specs.Level.{box_at, LevelsNested}

-- a test that is passed only with another fails with it
fails : (a b : Bool) → (T a → T b) → b ≡ false → a ≡ false
fails true b f e = clash (true_of b (f tt)) e
fails false b f e = refl

module _ {n depth : ℕ} {levels : List Level} (l : LevelsNested n depth levels) where
  pub clear-outward : (k : Constraint) (e : ℕ) → e ≤ depth → falsified k (box_at n levels e) ≡ false → (t : ℕ) → t ≤ e → falsified k (box_at n levels t) ≡ false
  clear-outward k zero h f t g = let z : t ≡ 0 = omega arith in rw z f
  clear-outward k (suc e) h f t g =
      ⊎_elim
      (λ (q : t ≡ suc e). rw q f)
      (λ (q : t < suc e). clear-outward k e (omega arith) (fails _ _ (falsified-nested k _ _ (range-ordered _ (l.range (suc e) h)) (nested-in _ _ (l.inside e (omega arith)))) f) t (omega arith))
      (eq-or-lt_of_le g)
