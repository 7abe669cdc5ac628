-- The model's descent from a valid state goes through propagation: it is propagation at the deepest level, and then the move where that stops.
use Prim.Native.Nat.{ℕ, zero, suc, ◌+◌, ◌<◌}
use native.Mathlib.Omega.{arith}
use mathlib.Core.Path.{◌≡◌, ap, ◌∙◌}
use lib.IntN.{ℤ}
use Rattle.model_walk.specs.Search.{Level, Core, constraint, with_levels, with_deepest, kept, dropped, number_at, hold_lower, hold_upper, raise_lower, lower_upper}
use Rattle.model_walk.specs.Move.{Move, conflict, new_lower, new_upper, decide, finish, next_move, follow, slack, descend, propagations_by, propagations_in}
use Rattle.validity.proofs.Thresholds.{Outside}
use Rattle.validity.proofs.Boxes.{Ordered}
use Rattle.validity.proofs.Moves.{Raises, Lowers, Chosen, next-chosen}
use Rattle.validity.proofs.Shrinking.{raise-shrinks, lower-shrinks}
use Rattle.validity.proofs.States.{CoreFits, deepest-ordered, deepest-outside, raise-fits, lower-fits}
use Rattle.validity.proofs.Steps.{descent-next, moves_next}
use Rattle.propagate.specs.Propagation.{Propagation, propagate_by, propagate_for, propagation}
use Rattle.propagate.proofs.Fuel.{Stopped, propagation-keeps}

-- propagation at a state's deepest level
abbrev pub propagated : Core → ℕ → Propagation
propagated c k = propagation c.thresholds (kept c) (number_at c) c.deepest k

-- the state with another deepest level is valid
abbrev pub FitsAt : Core → Level → Type 0
FitsAt c l = CoreFits (with_deepest c l)

module _ (c : Core) where
  ordered_at : (l : Level) → FitsAt c l → Ordered l.box
  unfolding with_deepest with_levels
  ordered_at l f = deepest-ordered (with_deepest c l) f

  outside-at : (l : Level) → FitsAt c l → Outside c.thresholds l.box
  unfolding with_deepest with_levels
  outside-at l f = deepest-outside (with_deepest c l) f

  raise-at : (l : Level) (j i : ℕ) (v : ℤ) → FitsAt c l → Raises (kept c) l.box j i v → FitsAt c (raise_lower c.thresholds i v (constraint (number_at c j)) l)
  unfolding with_deepest with_levels kept number_at dropped
  raise-at l j i v f m = raise-fits (with_deepest c l) j i v f m

  lower-at : (l : Level) (j i : ℕ) (v : ℤ) → FitsAt c l → Lowers (kept c) l.box j i v → FitsAt c (lower_upper c.thresholds i v (constraint (number_at c j)) l)
  unfolding with_deepest with_levels kept number_at dropped
  lower-at l j i v f m = lower-fits (with_deepest c l) j i v f m

  -- where the descent from a level, and the count of its moves 2 from k on, go through propagation
  record Through (l : Level) (k : ℕ) (r : Propagation) : Type 0 where
    stop : descend (with_deepest c l) ≡ follow r.move (with_deepest c r.level) descend
    count : k + propagations_in (with_deepest c l) ≡ r.count + propagations_by r.move (with_deepest c r.level) propagations_in

  -- one move of propagation is one of the descent
  by-through : (m : Move) (l : Level) (k : ℕ) (go : Level → ℕ → Propagation) → FitsAt c l → Chosen (kept c) l.box m →
      descend (with_deepest c l) ≡ follow m (with_deepest c l) descend → propagations_in (with_deepest c l) ≡ propagations_by m (with_deepest c l) propagations_in →
      ((d : Level) (e : ℕ) → FitsAt c d → slack d.box < slack l.box → Through d e (go d e)) → Through l k (propagate_by c.thresholds m (number_at c) l k go)
  unfolding propagate_by follow propagations_by raise_lower lower_upper hold_lower hold_upper with_deepest with_levels number_at dropped
  by-through (conflict j) l k go f m s n next = record { stop = s; count = ap (λ (x : ℕ). k + x) n }
  by-through (new_lower j i v) l k go f m s n next =
      let t = next _ (suc k) (raise-at l j i v f m) (raise-shrinks c.thresholds (kept c) l.box j i v (ordered_at l f) (outside-at l f) m).less in
      record { stop = s ∙ t.stop; count = ap (λ (x : ℕ). k + x) n ∙ omega (arith, t.count) }
  by-through (new_upper j i v) l k go f m s n next =
      let t = next _ (suc k) (lower-at l j i v f m) (lower-shrinks c.thresholds (kept c) l.box j i v (ordered_at l f) (outside-at l f) m).less in
      record { stop = s ∙ t.stop; count = ap (λ (x : ℕ). k + x) n ∙ omega (arith, t.count) }
  by-through (decide i) l k go f m s n next = record { stop = s; count = ap (λ (x : ℕ). k + x) n }
  by-through finish l k go f m s n next = record { stop = s; count = ap (λ (x : ℕ). k + x) n }

  next-stop : (l : Level) → FitsAt c l → descend (with_deepest c l) ≡ follow (next_move (kept c) l.box) (with_deepest c l) descend
  unfolding with_deepest with_levels kept
  next-stop l f = descent-next (with_deepest c l) f

  next-count : (l : Level) → FitsAt c l → propagations_in (with_deepest c l) ≡ propagations_by (next_move (kept c) l.box) (with_deepest c l) propagations_in
  unfolding with_deepest with_levels kept
  next-count l f = moves_next (with_deepest c l) f

  for-through : (fuel : ℕ) (l : Level) (k : ℕ) → FitsAt c l → slack l.box < fuel → Through l k (propagate_for c.thresholds fuel (kept c) (number_at c) l k)
  unfolding propagate_for
  for-through zero l k f h = let z : ⊥ = omega arith in absurd z
  for-through (suc fuel) l k f h =
      by-through (next_move (kept c) l.box) l k (propagate_for c.thresholds fuel (kept c) (number_at c)) f (next-chosen (kept c) l.box (ordered_at l f)) (next-stop l f) (next-count l f)
      (λ d e q s. for-through fuel d e q (omega arith))

  -- a state with its own deepest level
  fits-own : CoreFits c → FitsAt c c.deepest
  unfolding with_deepest with_levels
  fits-own f = f

  through : CoreFits c → (k : ℕ) → Through c.deepest k (propagated c k)
  unfolding propagation
  through f k = for-through (suc (slack c.deepest.box)) c.deepest k (fits-own f) (omega arith)

  -- going through propagation is going through the descent
  pub descent-propagated : (k : ℕ) → CoreFits c → descend c ≡ follow (propagated c k).move (with_deepest c (propagated c k).level) descend
  unfolding with_deepest with_levels
  descent-propagated k f = (through f k).stop

  pub count-propagated : (k : ℕ) → CoreFits c → k + propagations_in c ≡ (propagated c k).count + propagations_by (propagated c k).move (with_deepest c (propagated c k).level) propagations_in
  unfolding with_deepest with_levels
  count-propagated k f = (through f k).count

  -- where it stops the state is valid, the move is the next one there, and it sets no bound
  pub propagated-stopped : (k : ℕ) → CoreFits c → Stopped (kept c) (λ l e. FitsAt c l) (propagated c k)
  propagated-stopped k f = propagation-keeps c.thresholds (kept c) (number_at c) (λ l e. FitsAt c l) (λ l e. ordered_at l) (λ l e. outside-at l) (λ l e. raise-at l) (λ l e. lower-at l) c.deepest k (fits-own f)
