-- Moves 2 and 3 repeated: what each move keeps holds where they end, at a conflict or at a point, and the fuel does not run out.
use Prim.Native.Nat.{ℕ, zero, suc, ◌≤◌, ◌<◌}
use native.Mathlib.Omega.{arith}
use mathlib.Core.Option.{Option, none, some}
use mathlib.Core.Path.{◌≡◌, refl, sym, ap, ◌∙◌}
use lib.IntN.{ℤ}
use Rattle.model_walk.specs.Search.{constraint, Core, levels, with_levels, with_deepest, kept, number_at, hold_lower, hold_upper, raise_lower, lower_upper, decide_at}
use Rattle.model_walk.specs.Move.{Move, conflict, new_lower, new_upper, decide, finish, next_move, Stop, moved, follow, slack, descend_for, descend, propagations_by, propagations_for, propagations_in}
use Rattle.validity.proofs.Thresholds.{Outside}
use Rattle.validity.proofs.Boxes.{Ordered, first-open, low_half, low-slack}
use Rattle.validity.proofs.Moves.{Falsifies, Raises, Lowers, Decides, Finishes, Chosen, next-chosen}
use Rattle.validity.proofs.Shrinking.{raise-shrinks, lower-shrinks}

-- where the moves end
abbrev pub EndsAt : Core → Option ℕ → Type 0
EndsAt c none = Finishes (kept c) c.deepest.box
EndsAt c (some j) = Falsifies (kept c) c.deepest.box j

pub record Ended (p : Core → Type 0) (e : Stop) : Type 0 where
  pub holds : p e.core
  pub ends : EndsAt e.core e.falsified

-- a move after which the turn goes on
abbrev Goes : Move → Type 0
Goes (conflict j) = ⊥
Goes (new_lower j i v) = Unit {0}
Goes (new_upper j i v) = Unit {0}
Goes (decide i) = Unit {0}
Goes finish = ⊥

follow-same : (m : Move) (c : Core) (go to : Core → Stop) → (Goes m → go (moved m c) ≡ to (moved m c)) → follow m c go ≡ follow m c to
unfolding follow
follow-same (conflict j) c go to e = refl
follow-same (new_lower j i v) c go to e = e tt
follow-same (new_upper j i v) c go to e = e tt
follow-same (decide i) c go to e = e tt
follow-same finish c go to e = refl

propagations-same : (m : Move) (c : Core) (go to : Core → ℕ) → (Goes m → go (moved m c) ≡ to (moved m c)) → propagations_by m c go ≡ propagations_by m c to
unfolding propagations_by
propagations-same (conflict j) c go to e = refl
propagations-same (new_lower j i v) c go to e = ap suc (e tt)
propagations-same (new_upper j i v) c go to e = ap suc (e tt)
propagations-same (decide i) c go to e = e tt
propagations-same finish c go to e = refl

-- a decision lowers the slack
pub decided-slack : (c : Core) (i : ℕ) → Ordered c.deepest.box → Decides (kept c) c.deepest.box i → slack (moved (decide i) c).deepest.box < slack c.deepest.box
unfolding with_levels decide_at
decided-slack c i o d = unfold low_half in low-slack i c.deepest.box o (first-open i c.deepest.box d.first)

module _
    (p : Core → Type 0)
    (ordered : (c : Core) → p c → Ordered c.deepest.box)
    (outside : (c : Core) → p c → Outside c.thresholds c.deepest.box)
    (raise : (c : Core) (j i : ℕ) (v : ℤ) → p c → Raises (kept c) c.deepest.box j i v → p (with_deepest c (raise_lower c.thresholds i v (constraint (number_at c j)) c.deepest)))
    (lower : (c : Core) (j i : ℕ) (v : ℤ) → p c → Lowers (kept c) c.deepest.box j i v → p (with_deepest c (lower_upper c.thresholds i v (constraint (number_at c j)) c.deepest)))
    (deeper : (c : Core) (i : ℕ) → p c → Decides (kept c) c.deepest.box i → p (with_levels c (decide_at i c.deepest) (levels c)))
  where
    -- a move that goes on leaves a state of less slack
    onward : (m : Move) (c : Core) → p c → Chosen (kept c) c.deepest.box m → Goes m → p (moved m c) × (slack (moved m c).deepest.box < slack c.deepest.box)
    unfolding with_deepest with_levels raise_lower lower_upper hold_lower hold_upper decide_at
    onward (conflict j) c h m g = absurd g
    onward (new_lower j i v) c h m g =
        (raise c j i v h m, (raise-shrinks c.thresholds (kept c) c.deepest.box j i v (ordered c h) (outside c h) m).less)
    onward (new_upper j i v) c h m g =
        (lower c j i v h m, (lower-shrinks c.thresholds (kept c) c.deepest.box j i v (ordered c h) (outside c h) m).less)
    onward (decide i) c h m g = (deeper c i h m, decided-slack c i (ordered c h) m)
    onward finish c h m g = absurd g

    -- one move, and what comes after it
    follow-keeps : (m : Move) (c : Core) (go : Core → Stop) → p c → Chosen (kept c) c.deepest.box m →
        ((d : Core) → p d → slack d.deepest.box < slack c.deepest.box → Ended p (go d)) → Ended p (follow m c go)
    unfolding follow
    follow-keeps (conflict j) c go h m next = record { holds = h; ends = m }
    follow-keeps (new_lower j i v) c go h m next = let o = onward (new_lower j i v) c h m tt in next _ o.0 o.1
    follow-keeps (new_upper j i v) c go h m next = let o = onward (new_upper j i v) c h m tt in next _ o.0 o.1
    follow-keeps (decide i) c go h m next = let o = onward (decide i) c h m tt in next _ o.0 o.1
    follow-keeps finish c go h m next = record { holds = h; ends = m }

    descend-for : (fuel : ℕ) (c : Core) → p c → slack c.deepest.box < fuel → Ended p (descend_for fuel c)
    unfolding descend_for
    descend-for zero c h l = let z : ⊥ = omega arith in absurd z
    descend-for (suc fuel) c h l =
        follow-keeps (next_move (kept c) c.deepest.box) c (descend_for fuel) h (next-chosen (kept c) c.deepest.box (ordered c h))
        (λ d k s. descend-for fuel d k (omega arith))

    pub descend-keeps : (c : Core) → p c → Ended p (descend c)
    unfolding descend
    descend-keeps c h = descend-for (suc (slack c.deepest.box)) c h (omega arith)

    -- ---- a fuel above the slack does not matter: for the descent, and for N5's count of its moves 2
    module _
        {A : Type 0}
        (by : Move → Core → (Core → A) → A)
        (along : ℕ → Core → A)
        (one : (fuel : ℕ) (c : Core) → along (suc fuel) c ≡ by (next_move (kept c) c.deepest.box) c (along fuel))
        (same : (m : Move) (c : Core) (go to : Core → A) → (Goes m → go (moved m c) ≡ to (moved m c)) → by m c go ≡ by m c to)
      where
        along-fuel : (f g : ℕ) (c : Core) → p c → slack c.deepest.box < f → slack c.deepest.box < g → along f c ≡ along g c
        along-fuel zero g c h k l = let z : ⊥ = omega arith in absurd z
        along-fuel (suc f) zero c h k l = let z : ⊥ = omega arith in absurd z
        along-fuel (suc f) (suc g) c h k l =
            one f c ∙
            same (next_move (kept c) c.deepest.box) c (along f) (along g)
            (λ q. let o = onward (next_move (kept c) c.deepest.box) c h (next-chosen (kept c) c.deepest.box (ordered c h)) q in along-fuel f g (moved (next_move (kept c) c.deepest.box) c) o.0 (omega (arith, o.1)) (omega (arith, o.1))) ∙
            sym (one g c)

        along-next : (c : Core) → p c → along (suc (slack c.deepest.box)) c ≡ by (next_move (kept c) c.deepest.box) c (λ d. along (suc (slack d.deepest.box)) d)
        along-next c h =
            one (slack c.deepest.box) c ∙
            same (next_move (kept c) c.deepest.box) c (along (slack c.deepest.box)) (λ d. along (suc (slack d.deepest.box)) d)
            (λ q. let o = onward (next_move (kept c) c.deepest.box) c h (next-chosen (kept c) c.deepest.box (ordered c h)) q in along-fuel (slack c.deepest.box) _ (moved (next_move (kept c) c.deepest.box) c) o.0 o.1 (omega arith))

    -- the descent from a state is its next move and the descent from there
    pub descend-next : (c : Core) → p c → descend c ≡ follow (next_move (kept c) c.deepest.box) c descend
    unfolding descend
    descend-next c h = along-next follow descend_for (λ fuel d. unfold descend_for in refl) follow-same c h

    -- so are its moves 2, of which there are at most as many as the slack
    pub propagations-next : (c : Core) → p c → propagations_in c ≡ propagations_by (next_move (kept c) c.deepest.box) c propagations_in
    unfolding propagations_in
    propagations-next c h = along-next propagations_by propagations_for (λ fuel d. unfold propagations_for in refl) propagations-same c h

    by-few : (m : Move) (c : Core) (go : Core → ℕ) → p c → Chosen (kept c) c.deepest.box m → ((d : Core) → p d → go d ≤ slack d.deepest.box) → propagations_by m c go ≤ slack c.deepest.box
    unfolding propagations_by
    by-few (conflict j) c go h m next = omega arith
    by-few (new_lower j i v) c go h m next = let o = onward (new_lower j i v) c h m tt in omega (arith, next _ o.0, o.1)
    by-few (new_upper j i v) c go h m next = let o = onward (new_upper j i v) c h m tt in omega (arith, next _ o.0, o.1)
    by-few (decide i) c go h m next = let o = onward (decide i) c h m tt in omega (arith, next _ o.0, o.1)
    by-few finish c go h m next = omega arith

    for-few : (fuel : ℕ) (c : Core) → p c → propagations_for fuel c ≤ slack c.deepest.box
    unfolding propagations_for
    for-few zero c h = omega arith
    for-few (suc fuel) c h =
        by-few (next_move (kept c) c.deepest.box) c (propagations_for fuel) h (next-chosen (kept c) c.deepest.box (ordered c h)) (for-few fuel)

    pub propagations-few : (c : Core) → p c → propagations_in c ≤ slack c.deepest.box
    unfolding propagations_in
    propagations-few c h = for-few (suc (slack c.deepest.box)) c h
