-- N6's thresholds: a bound jumps to the nearest value that the variable may have, and no further; boxes whose bounds are such values.
use Prim.Native.Nat.{ℕ, zero, suc}
use native.Mathlib.Omega.{arith}
use mathlib.Core.Bool.{Bool, true, false, not, cond}
use mathlib.Core.List.{List, [], ◌∷◌}
use mathlib.Core.Logic.{◌⊎◌, inl, inr, ⊎_elim, ◌↔◌}
use lib.Dec.{T}
use lib.IntN.{ℤ, pos, suc_ℤ}
use lib.Signed.{le_z, lt_z}
use lib.ListN.{get_or, set}
use Rattle.model_problems.specs.Lists.{all_pairs}
use Rattle.model_problems.specs.Constraint.{Bounds, Box, lower_at, upper_at}
use Rattle.model_problems.specs.Threshold.{threshold_at, in_gap, allowed, lifted, sunk, next_value, outside_gap}
use Rattle.model_problems.specs.Points.{Point, Allowed}
use Rattle.integer.specs.Parts.{◌⊑◌, ◌⊏◌, suc-parts, le_in, nle-in, nlt-in, lt_in}
use Rattle.integer.specs.Order.{≤-or-<}
use Rattle.integer.specs.Tests.{of-true, and_in, and_left, and_right, not_in, not-out, answer}

-- ---- the gap
pub gap-in : (t x : ℤ) → T (in_gap t x) → (pos 1 ⊑ x) × (x ⊏ t)
unfolding in_gap
gap-in t x g = (le_in (pos 1) x (and_left (le_z (pos 1) x) (lt_z x t) g), lt_in x t (and_right (le_z (pos 1) x) (lt_z x t) g))

pub allowed-in : (t x : ℤ) → T (allowed t x) → (x ⊏ pos 1) ⊎ (t ⊑ x)
unfolding allowed in_gap
allowed-in t x a =
    ⊎_elim
    (λ l. ⊎_elim (λ h. absurd (not-out (in_gap t x) a (unfold in_gap in and_in (le_z (pos 1) x) (lt_z x t) l h))) (λ h. inr (nlt-in x t h)) (answer (lt_z x t)))
    (λ l. inl (nle-in (pos 1) x l))
    (answer (le_z (pos 1) x))

pub allowed-out : (t x : ℤ) → (x ⊏ pos 1) ⊎ (t ⊑ x) → T (allowed t x)
unfolding allowed
allowed-out t x h = not_in (in_gap t x) (λ g. let k = gap-in t x g in ⊎_elim (λ (l : x ⊏ pos 1). omega arith) (λ (l : t ⊑ x). omega arith) h)

-- ---- jumps
-- w is the least value from v on
pub record Lifts (t v w : ℤ) : Type 0 where
  pub above : v ⊑ w
  pub least : (x : ℤ) → T (allowed t x) → v ⊑ x → w ⊑ x
  pub allowed : T (allowed t w)

-- and the greatest up to v
pub record Sinks (t v w : ℤ) : Type 0 where
  pub below : w ⊑ v
  pub most : (x : ℤ) → T (allowed t x) → x ⊑ v → x ⊑ w
  pub allowed : T (allowed t w)

pub lifts : (t v : ℤ) → Lifts t v (lifted t v)
unfolding lifted
lifts t v = go (in_gap t v) (gap-in t v) (λ a. unfold allowed in a)
  where
    go : (g : Bool) → (T g → (pos 1 ⊑ v) × (v ⊏ t)) → (T (not g) → T (allowed t v)) → Lifts t v (cond g t v)
    go true f a =
        let h = f tt in
        record { above = omega arith; least = λ x b k. ⊎_elim (λ (l : x ⊏ pos 1). absurd (omega arith)) (λ (l : t ⊑ x). l) (allowed-in t x b); allowed = allowed-out t t (inr (omega arith)) }
    go false f a = record { above = omega arith; least = λ x b k. k; allowed = a tt }

pub sinks : (t v : ℤ) → Sinks t v (sunk t v)
unfolding sunk
sinks t v = go (in_gap t v) (gap-in t v) (λ a. unfold allowed in a)
  where
    go : (g : Bool) → (T g → (pos 1 ⊑ v) × (v ⊏ t)) → (T (not g) → T (allowed t v)) → Sinks t v (cond g (pos 0) v)
    go true f a =
        let h = f tt in
        record { below = omega arith; most = λ x b k. ⊎_elim (λ (l : x ⊏ pos 1). omega arith) (λ (l : t ⊑ x). absurd (omega arith)) (allowed-in t x b); allowed = allowed-out t (pos 0) (inl (omega arith)) }
    go false f a = record { below = omega arith; most = λ x b k. k; allowed = a tt }

-- the next value is the least above v
pub record Follows (t v w : ℤ) : Type 0 where
  pub above : v ⊏ w
  pub least : (x : ℤ) → T (allowed t x) → v ⊏ x → w ⊑ x
  pub allowed : T (allowed t w)

pub follows : (t v : ℤ) → Follows t v (next_value t v)
unfolding next_value
follows t v =
    let s = suc-parts v in
    let l = lifts t (suc_ℤ v) in
    record { above = omega (arith, l.above); least = λ x a h. l.least x a (omega arith); allowed = l.allowed }

-- ---- boxes whose bounds are values that their variables may have
abbrev pub Outside : List ℤ → Box → Type 0
Outside [] [] = Unit {0}
Outside [] (b ∷ box) = ⊥
Outside (t ∷ ts) [] = ⊥
Outside (t ∷ ts) (b ∷ box) = T (allowed t b.lower) × T (allowed t b.upper) × Outside ts box

pub outside-in : (ts : List ℤ) (box : Box) → T (all_pairs outside_gap ts box) → Outside ts box
unfolding all_pairs outside_gap
outside-in [] [] h = tt
outside-in [] (b ∷ box) h = absurd h
outside-in (t ∷ ts) [] h = absurd h
outside-in (t ∷ ts) (b ∷ box) h =
    let here = and_left (outside_gap t b) (all_pairs outside_gap ts box) h in
    (and_left (allowed t b.lower) (allowed t b.upper) here, and_right (allowed t b.lower) (allowed t b.upper) here, outside-in ts box (and_right (outside_gap t b) (all_pairs outside_gap ts box) h))

pub outside-out : (ts : List ℤ) (box : Box) → Outside ts box → T (all_pairs outside_gap ts box)
unfolding all_pairs outside_gap
outside-out [] [] h = tt
outside-out [] (b ∷ box) h = absurd h
outside-out (t ∷ ts) [] h = absurd h
outside-out (t ∷ ts) (b ∷ box) h = and_in (outside_gap t b) (all_pairs outside_gap ts box) (and_in (allowed t b.lower) (allowed t b.upper) h.0 h.1) (outside-out ts box h.2)

-- at variable i
pub outside-at : (i : ℕ) (ts : List ℤ) (box : Box) → Outside ts box → T (allowed (threshold_at ts i) (lower_at box i)) × T (allowed (threshold_at ts i) (upper_at box i))
unfolding threshold_at lower_at upper_at
outside-at i [] [] h = (unfold allowed in_gap in tt, unfold allowed in_gap in tt)
outside-at i [] (b ∷ box) h = absurd h
outside-at i (t ∷ ts) [] h = absurd h
outside-at zero (t ∷ ts) (b ∷ box) h = (h.0, h.1)
outside-at (suc i) (t ∷ ts) (b ∷ box) h = outside-at i ts box h.2

pub outside_set : (i : ℕ) (c : Bounds) (ts : List ℤ) (box : Box) → Outside ts box → T (allowed (threshold_at ts i) c.lower) → T (allowed (threshold_at ts i) c.upper) → Outside ts (set box i c)
unfolding threshold_at
outside_set i c [] [] h l u = tt
outside_set i c [] (b ∷ box) h l u = absurd h
outside_set i c (t ∷ ts) [] h l u = absurd h
outside_set zero c (t ∷ ts) (b ∷ box) h l u = (l, u, h.2)
outside_set (suc i) c (t ∷ ts) (b ∷ box) h l u = (h.0, h.1, outside_set i c ts box h.2 l u)

-- the value of variable i at an allowed point
pub allowed_at : (i : ℕ) (ts : List ℤ) (x : Point) → Allowed ts x → T (allowed (threshold_at ts i) (get_or x i (pos 0)))
unfolding threshold_at
allowed_at i [] [] h = unfold allowed in_gap in tt
allowed_at i [] (y ∷ x) h = absurd h
allowed_at i (t ∷ ts) [] h = absurd h
allowed_at zero (t ∷ ts) (y ∷ x) h = of-true _ h.0
allowed_at (suc i) (t ∷ ts) (y ∷ x) h = allowed_at i ts x h.1

-- ---- whether a bound improves may be asked before or after the jump, where the bound that it replaces is a value
pub improves-lower : (t l v : ℤ) → T (allowed t l) → (l ⊏ v) ↔ (l ⊏ lifted t v)
improves-lower t l v a = (
  λ h. omega (arith, (lifts t v).above),
  λ h. ⊎_elim (λ k. absurd (omega (arith, (lifts t v).least l a (le_in v l k.le)))) (λ k. lt_in l v k.lt) (≤-or-< v l),
)

pub improves-upper : (t u v : ℤ) → T (allowed t u) → (v ⊏ u) ↔ (sunk t v ⊏ u)
improves-upper t u v a = (
  λ h. omega (arith, (sinks t v).below),
  λ h. ⊎_elim (λ k. absurd (omega (arith, (sinks t v).most u a (le_in u v k.le)))) (λ k. lt_in v u k.lt) (≤-or-< u v),
)
