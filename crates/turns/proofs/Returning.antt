-- Back at an earlier level, with its decision flipped: from a conflict, and from a solution that is struck out.
use Prim.Native.Nat.{ℕ, suc, ◌-◌, ◌≤◌, ◌<◌}
use native.Mathlib.Omega.{arith}
use mathlib.Core.List.{List}
use mathlib.Core.Path.{◌≡◌, refl, sym, ap, ap₂, ◌∙◌}
use lib.IntN.{ℤ}
use lib.ListN.{get_or, set, length, length-set}
use Rattle.model_walk.specs.Search as model
use Rattle.model_walk.specs.Conflict.{back_up}
use Rattle.layout.specs.Rows.{thresholds_of}
use Rattle.validity.proofs.States.{CoreFits}
use Rattle.state.specs.View.{flipped_reason, no_level, level_of, level_at, levels_from}
use Rattle.state.specs.Change.{Whole, raised}
use Rattle.state.specs.declared.Level.{Level}
use Rattle.state.proofs.Levels.{level-flipped}
use Rattle.state.proofs.Cores.{level-here, levels-above, backed-up}
use Rattle.propagate.specs.Apart.{core_apart}
use Rattle.state.specs.Moved.{RowsMoved}
use Rattle.backtrack.specs.Jumps.{next_in}
use Rattle.turns.proofs.Running.{core_here}
use Rattle.turns.proofs.Stored.{stored-under}

whole-raised : (l : Level) (i : ℕ) (v : ℤ) (k : ℕ) → Whole l → Whole (raised l i v k)
whole-raised l i v k w =
    record { lower = length-set l.lower i v ∙ w.lower; upper = w.upper; below = length-set l.below i k ∙ w.below; above = w.above }

-- the levels were stored, so that going back to level e reads them there
pub backed-here : (thresholds lines divisors : List ℤ) (n m made : ℕ) (rows : List ℤ) (numbers : List ℕ) (levels : List Level) (depth : ℕ) (here : Level) → depth < length levels → (e : ℕ) → suc e ≤ depth →
    (flip : Level) → level_of n flip ≡ model.flip_at (thresholds_of n thresholds) (level_at n (set levels depth here) (suc e)).decided (level_at n (set levels depth here) e) →
    back_up (suc e) (core_here thresholds lines divisors n m rows numbers levels made depth here) ≡ core_here thresholds lines divisors n m rows numbers (set levels depth here) made e flip
backed-here thresholds lines divisors n m made rows numbers levels depth here deep e d flip f =
    ap₂ (λ (q : model.Level) (qs : List model.Level). back_up (suc e) (core_apart thresholds n m made rows lines divisors numbers q qs)) (sym (level-here n levels depth here deep)) (sym (levels-above n levels depth depth here (omega arith))) ∙
    backed-up _ _ n m made rows numbers (set levels depth here) depth e d ∙
    ap (λ (q : model.Level). core_apart thresholds n m made rows lines divisors numbers q (levels_from n (set levels depth here) e)) (sym f)

-- the level `here`, stored at `depth`, and the level to go back to; the constraints kept there are those of rows₁
pub record Back (thresholds lines divisors : List ℤ) (n m : ℕ) (rows : List ℤ) (numbers : List ℕ) (levels : List Level) (made depth : ℕ) (here : Level) (back made₁ : ℕ) (rows₁ : List ℤ) : Type 0 where
  pub few : n ≤ 32
  pub deep : depth ≤ 32
  pub levels_long : length levels ≡ 33
  pub fits : CoreFits (core_here thresholds lines divisors n m rows numbers levels made depth here)
  pub some : 1 ≤ back
  pub reach : back ≤ depth
  pub shifted : RowsMoved n m made made₁ rows rows₁
  pub whole : Whole (get_or (set levels depth here) (back - 1) no_level)

module _ {thresholds lines divisors : List ℤ} {n m : ℕ} {rows : List ℤ} {numbers : List ℕ} {levels : List Level} {made depth : ℕ} {here : Level} {back made₁ : ℕ} {rows₁ : List ℤ}
    (k : Back thresholds lines divisors n m rows numbers levels made depth here back made₁ rows₁) where
  abbrev stored : List Level
  stored = set levels depth here

  pub inside : depth < length levels
  inside = omega (arith, k.deep, k.levels_long)

  pub one_more : back ≡ suc (back - 1)
  one_more = omega (arith, k.some)

  abbrev outer : Level
  outer = get_or stored (back - 1) no_level

  -- the decision to flip
  abbrev variable : ℕ
  variable = (get_or stored back no_level).decided

  pub variable-fits : variable < n
  variable-fits = rw one_more (unfold level_at level_of in (stored-under thresholds lines divisors n m rows numbers levels made depth here inside k.fits (back - 1) (omega (arith, k.reach, k.some))).variable)

  abbrev pub flipped_to : Level
  flipped_to = raised outer variable (next_in thresholds outer.lower variable) flipped_reason

  pub flipped-whole : Whole flipped_to
  flipped-whole = whole-raised outer variable _ flipped_reason k.whole

  pub flipped-is : level_of n flipped_to ≡ model.flip_at (thresholds_of n thresholds) (level_at n stored (suc (back - 1))).decided (level_at n stored (back - 1))
  flipped-is =
      let i : variable ≡ (level_at n stored (suc (back - 1))).decided = unfold level_at level_of in ap (λ (d : ℕ). (get_or stored d no_level).decided) one_more in
      let e : level_of n outer ≡ level_at n stored (back - 1) = unfold level_at in refl in
      level-flipped n outer k.whole k.few thresholds variable variable-fits ∙ ap₂ (model.flip_at (thresholds_of n thresholds)) i e
