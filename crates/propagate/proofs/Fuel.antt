-- Propagation as its own next move: the fuel does not run out, what every bound that is set keeps holds where it stops, and the next move there sets
-- no bound.
use Prim.Native.Nat.{ℕ, zero, suc, ◌<◌}
use native.Mathlib.Omega.{arith}
use mathlib.Core.List.{List}
use mathlib.Core.Path.{◌≡◌, refl}
use lib.IntN.{ℤ}
use Rattle.model_problems.specs.Constraint.{Constraint}
use Rattle.model_walk.specs.Search.{Level, constraint, hold_lower, hold_upper, raise_lower, lower_upper}
use Rattle.model_walk.specs.Move.{Move, conflict, new_lower, new_upper, decide, finish, next_move, slack}
use Rattle.validity.proofs.Thresholds.{Outside}
use Rattle.validity.proofs.Boxes.{Ordered}
use Rattle.validity.proofs.Moves.{Raises, Lowers, Chosen, next-chosen}
use Rattle.validity.proofs.Shrinking.{Shrinks, raise-shrinks, lower-shrinks}
use Rattle.propagate.specs.Propagation.{Propagation, propagate_by, propagate_for, propagation}

-- a move that sets no bound
abbrev pub Stops : Move → Type 0
Stops (conflict j) = Unit {0}
Stops (new_lower j i v) = ⊥
Stops (new_upper j i v) = ⊥
Stops (decide i) = Unit {0}
Stops finish = Unit {0}

pub record Stopped (ks : List Constraint) (p : Level → ℕ → Type 0) (r : Propagation) : Type 0 where
  pub holds : p r.level r.count
  pub chosen : Chosen ks r.level.box r.move
  pub stops : Stops r.move

module _
    (ts : List ℤ)
    (ks : List Constraint)
    (number : ℕ → ℕ)
    (p : Level → ℕ → Type 0)
    (ordered : (l : Level) (c : ℕ) → p l c → Ordered l.box)
    (outside : (l : Level) (c : ℕ) → p l c → Outside ts l.box)
    (raise : (l : Level) (c j i : ℕ) (v : ℤ) → p l c → Raises ks l.box j i v → p (raise_lower ts i v (constraint (number j)) l) (suc c))
    (lower : (l : Level) (c j i : ℕ) (v : ℤ) → p l c → Lowers ks l.box j i v → p (lower_upper ts i v (constraint (number j)) l) (suc c))
  where
    -- one move, and what comes after it at a level of less slack
    by-keeps : (m : Move) (l : Level) (c : ℕ) (go : Level → ℕ → Propagation) → p l c → Chosen ks l.box m →
        ((k : Level) (d : ℕ) → p k d → slack k.box < slack l.box → Stopped ks p (go k d)) → Stopped ks p (propagate_by ts m number l c go)
    unfolding propagate_by raise_lower lower_upper hold_lower hold_upper
    by-keeps (conflict j) l c go h m next = record { holds = h; chosen = m; stops = tt }
    by-keeps (new_lower j i v) l c go h m next =
        next _ _ (raise l c j i v h m) (raise-shrinks ts ks l.box j i v (ordered l c h) (outside l c h) m).less
    by-keeps (new_upper j i v) l c go h m next =
        next _ _ (lower l c j i v h m) (lower-shrinks ts ks l.box j i v (ordered l c h) (outside l c h) m).less
    by-keeps (decide i) l c go h m next = record { holds = h; chosen = m; stops = tt }
    by-keeps finish l c go h m next = record { holds = h; chosen = m; stops = tt }

    for-keeps : (fuel : ℕ) (l : Level) (c : ℕ) → p l c → slack l.box < fuel → Stopped ks p (propagate_for ts fuel ks number l c)
    unfolding propagate_for
    for-keeps zero l c h s = let z : ⊥ = omega arith in absurd z
    for-keeps (suc fuel) l c h s =
        by-keeps (next_move ks l.box) l c (propagate_for ts fuel ks number) h (next-chosen ks l.box (ordered l c h))
        (λ k d q t. for-keeps fuel k d q (omega arith))

    pub propagation-keeps : (l : Level) (c : ℕ) → p l c → Stopped ks p (propagation ts ks number l c)
    unfolding propagation
    propagation-keeps l c h = for-keeps (suc (slack l.box)) l c h (omega arith)

-- ---- a fuel above the slack does not matter
module _ (ts : List ℤ) (ks : List Constraint) (number : ℕ → ℕ) where
  by-same : (m : Move) (l : Level) (c : ℕ) (go to : Level → ℕ → Propagation) → Ordered l.box → Outside ts l.box → Chosen ks l.box m →
      ((k : Level) (d : ℕ) → Shrinks ts k.box l.box → go k d ≡ to k d) → propagate_by ts m number l c go ≡ propagate_by ts m number l c to
  unfolding propagate_by raise_lower lower_upper hold_lower hold_upper
  by-same (conflict j) l c go to o a m next = refl
  by-same (new_lower j i v) l c go to o a m next =
      next _ _ (raise-shrinks ts ks l.box j i v o a m)
  by-same (new_upper j i v) l c go to o a m next =
      next _ _ (lower-shrinks ts ks l.box j i v o a m)
  by-same (decide i) l c go to o a m next = refl
  by-same finish l c go to o a m next = refl

  for-fuel : (f g : ℕ) (l : Level) (c : ℕ) → Ordered l.box → Outside ts l.box → slack l.box < f → slack l.box < g → propagate_for ts f ks number l c ≡ propagate_for ts g ks number l c
  unfolding propagate_for
  for-fuel zero g l c o a h k = let z : ⊥ = omega arith in absurd z
  for-fuel (suc f) zero l c o a h k = let z : ⊥ = omega arith in absurd z
  for-fuel (suc f) (suc g) l c o a h k =
      by-same (next_move ks l.box) l c (propagate_for ts f ks number) (propagate_for ts g ks number) o a (next-chosen ks l.box o)
      (λ d e q. for-fuel f g d e q.ordered q.outside (omega (arith, q.less)) (omega (arith, q.less)))

  -- propagation at a level is its next move and propagation from there
  pub propagation-next : (l : Level) (c : ℕ) → Ordered l.box → Outside ts l.box → propagation ts ks number l c ≡ propagate_by ts (next_move ks l.box) number l c (propagation ts ks number)
  unfolding propagation propagate_for
  propagation-next l c o a =
      by-same (next_move ks l.box) l c (propagate_for ts (slack l.box) ks number) (propagation ts ks number) o a (next-chosen ks l.box o)
      (λ d e q. unfold propagation in for-fuel (slack l.box) (suc (slack d.box)) d e q.ordered q.outside q.less (omega arith))
