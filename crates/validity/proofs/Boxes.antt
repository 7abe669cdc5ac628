-- Boxes: L ≤ U in each variable, one box inside another, and what a changed bound does to the points inside.
use Prim.Native.Nat.{ℕ, zero, suc, ◌+◌, ◌<◌}
use native.Mathlib.Omega.{arith}
use mathlib.Core.List.{List, [], ◌∷◌, map}
use mathlib.Core.Logic.{◌⊎◌, inl, inr, ⊎_map}
use mathlib.Core.Path.{◌≡◌, refl, ap, ap₂}
use lib.Dec.{T}
use lib.IntN.{ℤ, pos, nat_abs, ◌-ℤ◌}
use lib.ListN.{get_or, set, length, length-set}
use Rattle.model_problems.specs.Constraint.{Bounds, Box, lower_at, upper_at, set_lower, set_upper}
use Rattle.model_problems.specs.Threshold.{threshold_at, allowed, next_value}
use Rattle.model_walk.specs.Move.{slack}
use Rattle.model_walk.specs.Step.{lowers}
use Rattle.model_problems.specs.Points.{Point, Inside, Allowed, Before}
use Rattle.integer.specs.Parts.{up, down, ◌⊑◌, ◌⊏◌, sub_parts, abs-of, le_in, le_out, lt_in, lt_out, eq-out}
use Rattle.integer.specs.Order.{≤-or-<}
use Rattle.integer.specs.Tests.{is_true}
use Rattle.validity.proofs.Thresholds.{follows, Outside, outside-at, outside_set}

abbrev pub Ordered : Box → Type 0
Ordered [] = Unit {0}
Ordered (b ∷ box) = (b.lower ⊑ b.upper) × Ordered box

-- the first box lies within the second
abbrev pub Nested : Box → Box → Type 0
Nested [] [] = Unit {0}
Nested [] (o ∷ outer) = ⊥
Nested (b ∷ box) [] = ⊥
Nested (b ∷ box) (o ∷ outer) = (o.lower ⊑ b.lower) × (b.upper ⊑ o.upper) × Nested box outer

-- every variable has one value
abbrev pub Fixed : Box → Type 0
Fixed [] = Unit {0}
Fixed (b ∷ box) = (b.upper ⊑ b.lower) × Fixed box

-- variable i has several
pub record OpenAt (box : Box) (i : ℕ) : Type 0 where
  pub at : i < length box
  pub wide : lower_at box i ⊏ upper_at box i

-- variable i is the first that has
abbrev pub FirstOpen : ℕ → Box → Type 0
FirstOpen i [] = ⊥
FirstOpen zero (b ∷ box) = b.lower ⊏ b.upper
FirstOpen (suc i) (b ∷ box) = (b.upper ⊑ b.lower) × FirstOpen i box

pub first-open : (i : ℕ) (box : Box) → FirstOpen i box → OpenAt box i
unfolding lower_at upper_at
first-open i [] f = absurd f
first-open zero (b ∷ box) f = record { at = omega arith; wide = f }
first-open (suc i) (b ∷ box) f = let o = first-open i box f.1 in record { at = omega arith; wide = o.wide }

-- ---- one box in another
pub nested-refl : (box : Box) → Nested box box
nested-refl [] = tt
nested-refl (b ∷ box) = (omega arith, omega arith, nested-refl box)

pub nested-trans : (a b c : Box) → Nested a b → Nested b c → Nested a c
nested-trans [] [] [] m n = tt
nested-trans [] [] (z ∷ c) m n = absurd n
nested-trans [] (y ∷ b) c m n = absurd m
nested-trans (x ∷ a) [] c m n = absurd m
nested-trans (x ∷ a) (y ∷ b) [] m n = absurd n
nested-trans (x ∷ a) (y ∷ b) (z ∷ c) m n = (omega arith, omega arith, nested-trans a b c m.2 n.2)

pub nested-length : (box outer : Box) → Nested box outer → length box ≡ length outer
nested-length [] [] n = refl
nested-length [] (o ∷ outer) n = absurd n
nested-length (b ∷ box) [] n = absurd n
nested-length (b ∷ box) (o ∷ outer) n = ap suc (nested-length box outer n.2)

pub nested-inside : (x : Point) (box outer : Box) → Nested box outer → Inside x box → Inside x outer
nested-inside [] [] [] n h = tt
nested-inside [] [] (o ∷ outer) n h = absurd n
nested-inside [] (b ∷ box) outer n h = absurd h
nested-inside (y ∷ x) [] outer n h = absurd h
nested-inside (y ∷ x) (b ∷ box) [] n h = absurd n
nested-inside (y ∷ x) (b ∷ box) (o ∷ outer) n h = (omega (arith, le_in, le_out), omega (arith, le_in, le_out), nested-inside x box outer n.2 h.2)

-- ---- at variable i
pub ordered_at : (i : ℕ) (box : Box) → Ordered box → lower_at box i ⊑ upper_at box i
unfolding lower_at upper_at
ordered_at i [] o = omega arith
ordered_at zero (b ∷ box) o = o.0
ordered_at (suc i) (b ∷ box) o = ordered_at i box o.1

inside-at : (i : ℕ) (box : Box) (x : Point) → Inside x box → (lower_at box i ⊑ get_or x i (pos 0)) × (get_or x i (pos 0) ⊑ upper_at box i)
unfolding lower_at upper_at
inside-at i [] [] h = omega arith
inside-at i [] (y ∷ x) h = absurd h
inside-at i (b ∷ box) [] h = absurd h
inside-at zero (b ∷ box) (y ∷ x) h = omega (arith, le_in)
inside-at (suc i) (b ∷ box) (y ∷ x) h = inside-at i box x h.2

-- ---- bounds c set at variable i
set-nested : (i : ℕ) (c : Bounds) (box : Box) → lower_at box i ⊑ c.lower → c.upper ⊑ upper_at box i → Nested (set box i c) box
unfolding lower_at upper_at
set-nested i c [] h k = tt
set-nested zero c (b ∷ box) h k = (h, k, nested-refl box)
set-nested (suc i) c (b ∷ box) h k = (omega arith, omega arith, set-nested i c box h k)

set-ordered : (i : ℕ) (c : Bounds) (box : Box) → Ordered box → c.lower ⊑ c.upper → Ordered (set box i c)
set-ordered i c [] o h = tt
set-ordered zero c (b ∷ box) o h = (h, o.1)
set-ordered (suc i) c (b ∷ box) o h = (o.0, set-ordered i c box o.1 h)

set-inside : (i : ℕ) (c : Bounds) (box : Box) (x : Point) → Inside x box → c.lower ⊑ get_or x i (pos 0) → get_or x i (pos 0) ⊑ c.upper →
    Inside x (set box i c)
set-inside i c [] [] h l u = tt
set-inside i c [] (y ∷ x) h l u = absurd h
set-inside i c (b ∷ box) [] h l u = absurd h
set-inside zero c (b ∷ box) (y ∷ x) h l u = (omega (arith, le_out), omega (arith, le_out), h.2)
set-inside (suc i) c (b ∷ box) (y ∷ x) h l u = (h.0, h.1, set-inside i c box x h.2 l u)

set-slack : (i : ℕ) (c : Bounds) (box : Box) → i < length box → nat_abs (c.upper -ℤ c.lower) < nat_abs (upper_at box i -ℤ lower_at box i) →
    slack (set box i c) < slack box
unfolding lower_at upper_at slack
set-slack i c [] l h = let z : ⊥ = omega arith in absurd z
set-slack zero c (b ∷ box) l h = omega arith
set-slack (suc i) c (b ∷ box) l h = omega (arith, set-slack i c box (omega arith) h)

-- U − L, at the parts
pub gap_parts : (l u : ℤ) → l ⊑ u → nat_abs (u -ℤ l) + (up l + down u) ≡ up u + down l
gap_parts l u h = omega (arith, sub_parts u l, abs-of (u -ℤ l) (omega (arith, sub_parts u l)))

-- ---- a bound set at variable i
pub set-lower-length : (i : ℕ) (v : ℤ) (box : Box) → length (set_lower i v box) ≡ length box
unfolding set_lower
set-lower-length i v box = length-set box i _

pub set-upper-length : (i : ℕ) (v : ℤ) (box : Box) → length (set_upper i v box) ≡ length box
unfolding set_upper
set-upper-length i v box = length-set box i _

pub set-lower-nested : (i : ℕ) (v : ℤ) (box : Box) → lower_at box i ⊑ v → Nested (set_lower i v box) box
unfolding set_lower
set-lower-nested i v box h = set-nested i _ box h (omega arith)

pub set-upper-nested : (i : ℕ) (v : ℤ) (box : Box) → v ⊑ upper_at box i → Nested (set_upper i v box) box
unfolding set_upper
set-upper-nested i v box h = set-nested i _ box (omega arith) h

pub set-lower-ordered : (i : ℕ) (v : ℤ) (box : Box) → Ordered box → v ⊑ upper_at box i → Ordered (set_lower i v box)
unfolding set_lower
set-lower-ordered i v box o h = set-ordered i _ box o h

pub set-upper-ordered : (i : ℕ) (v : ℤ) (box : Box) → Ordered box → lower_at box i ⊑ v → Ordered (set_upper i v box)
unfolding set_upper
set-upper-ordered i v box o h = set-ordered i _ box o h

pub set-lower-inside : (i : ℕ) (v : ℤ) (box : Box) (x : Point) → Inside x box → v ⊑ get_or x i (pos 0) → Inside x (set_lower i v box)
unfolding set_lower
set-lower-inside i v box x h l = set-inside i _ box x h l (inside-at i box x h).1

pub set-upper-inside : (i : ℕ) (v : ℤ) (box : Box) (x : Point) → Inside x box → get_or x i (pos 0) ⊑ v → Inside x (set_upper i v box)
unfolding set_upper
set-upper-inside i v box x h u = set-inside i _ box x h (inside-at i box x h).0 u

pub set-lower-slack : (i : ℕ) (v : ℤ) (box : Box) → i < length box → Ordered box → lower_at box i ⊏ v → v ⊑ upper_at box i → slack (set_lower i v box) < slack box
unfolding set_lower
set-lower-slack i v box l o h k =
    set-slack i _ box l (omega (arith, gap_parts (lower_at box i) (upper_at box i) (ordered_at i box o), gap_parts v (upper_at box i) k))

pub set-upper-slack : (i : ℕ) (v : ℤ) (box : Box) → i < length box → Ordered box → lower_at box i ⊑ v → v ⊏ upper_at box i → slack (set_upper i v box) < slack box
unfolding set_upper
set-upper-slack i v box l o h k =
    set-slack i _ box l (omega (arith, gap_parts (lower_at box i) (upper_at box i) (ordered_at i box o), gap_parts (lower_at box i) v h))

-- ---- the two halves of a decision at variable i: L alone, and the values from the next one on
unfoldable pub low_half : ℕ → Box → Box
low_half i box = set_upper i (lower_at box i) box

unfoldable pub high_half : ℤ → ℕ → Box → Box
high_half t i box = set_lower i (next_value t (lower_at box i)) box

pub low-nested : (i : ℕ) (box : Box) → Ordered box → Nested (low_half i box) box
unfolding low_half
low-nested i box o = set-upper-nested i _ box (ordered_at i box o)

pub low-ordered : (i : ℕ) (box : Box) → Ordered box → Ordered (low_half i box)
unfolding low_half
low-ordered i box o = set-upper-ordered i _ box o (omega arith)

pub low-slack : (i : ℕ) (box : Box) → Ordered box → OpenAt box i → slack (low_half i box) < slack box
unfolding low_half
low-slack i box o w = set-upper-slack i _ box w.at o (omega arith) w.wide

pub low-outside : (i : ℕ) (ts : List ℤ) (box : Box) → Outside ts box → Outside ts (low_half i box)
unfolding low_half set_upper
low-outside i ts box o = let a = outside-at i ts box o in outside_set i _ ts box o a.0 a.0

pub high-nested : (t : ℤ) (i : ℕ) (box : Box) → Nested (high_half t i box) box
unfolding high_half
high-nested t i box = set-lower-nested i _ box (omega (arith, (follows t (lower_at box i)).above))

pub high-ordered : (ts : List ℤ) (i : ℕ) (box : Box) → Ordered box → Outside ts box → OpenAt box i → Ordered (high_half (threshold_at ts i) i box)
unfolding high_half
high-ordered ts i box o a w = set-lower-ordered i _ box o ((follows (threshold_at ts i) (lower_at box i)).least (upper_at box i) (outside-at i ts box a).1 w.wide)

pub high-outside : (ts : List ℤ) (i : ℕ) (box : Box) → Outside ts box → Outside ts (high_half (threshold_at ts i) i box)
unfolding high_half set_lower
high-outside ts i box o = outside_set i _ ts box o (follows (threshold_at ts i) (lower_at box i)).allowed (outside-at i ts box o).1

pub halves-inside : (t : ℤ) (i : ℕ) (box : Box) (x : Point) → T (allowed t (get_or x i (pos 0))) → Inside x box → Inside x (low_half i box) ⊎ Inside x (high_half t i box)
unfolding low_half high_half
halves-inside t i box x a h =
    ⊎_map
    (λ l. set-upper-inside i _ box x h (omega (arith, le_in)))
    (λ l. set-lower-inside i _ box x h ((follows t (lower_at box i)).least (get_or x i (pos 0)) a (omega (arith, lt_in))))
    (≤-or-< (get_or x i (pos 0)) (lower_at box i))

-- a point of the one comes before each point of the other
pub halves-before : (t : ℤ) (i : ℕ) (box : Box) (u v : Point) → FirstOpen i box → Inside u (low_half i box) → Inside v (high_half t i box) → Before u v
unfolding low_half high_half set_lower set_upper lower_at upper_at
halves-before t i [] u v f h k = absurd f
halves-before t zero (b ∷ box) [] v f h k = absurd h
halves-before t zero (b ∷ box) (x ∷ u) [] f h k = absurd k
halves-before t zero (b ∷ box) (x ∷ u) (y ∷ v) f h k = inl (omega (arith, le_in, lt_out, (follows t b.lower).above))
halves-before t (suc i) (b ∷ box) [] v f h k = absurd h
halves-before t (suc i) (b ∷ box) (x ∷ u) [] f h k = absurd k
halves-before t (suc i) (b ∷ box) (x ∷ u) (y ∷ v) f h k =
    inr (eq-out x y (omega (arith, le_in)), halves-before t i box u v f.1 h.2 k.2)

-- ---- the point of the lower bounds
pub lowers-inside : (box : Box) → Ordered box → Inside (lowers box) box
unfolding lowers
lowers-inside [] o = tt
lowers-inside (b ∷ box) o = (omega (arith, le_out), omega (arith, le_out), lowers-inside box o.1)

pub lowers-allowed : (ts : List ℤ) (box : Box) → Outside ts box → Allowed ts (lowers box)
unfolding lowers
lowers-allowed [] [] o = tt
lowers-allowed [] (b ∷ box) o = absurd o
lowers-allowed (t ∷ ts) [] o = absurd o
lowers-allowed (t ∷ ts) (b ∷ box) o = (is_true (allowed t b.lower) o.0, lowers-allowed ts box o.2)

pub fixed-only : (box : Box) (x : Point) → Fixed box → Inside x box → x ≡ lowers box
unfolding lowers
fixed-only [] [] f h = refl
fixed-only [] (y ∷ x) f h = absurd h
fixed-only (b ∷ box) [] f h = absurd h
fixed-only (b ∷ box) (y ∷ x) f h =
    ap₂ (λ (z : ℤ) (w : Point). z ∷ w) (eq-out y b.lower (omega (arith, le_in))) (fixed-only box x f.1 h.2)

-- ---- the box of one point
abbrev pub alone : Point → Box
alone x = map (λ (y : ℤ). record { lower = y; upper = y }) x

pub alone-ordered : (x : Point) → Ordered (alone x)
alone-ordered [] = tt
alone-ordered (y ∷ x) = (omega arith, alone-ordered x)

pub alone-fixed : (x : Point) → Fixed (alone x)
alone-fixed [] = tt
alone-fixed (y ∷ x) = (omega arith, alone-fixed x)

pub alone-lowers : (x : Point) → lowers (alone x) ≡ x
unfolding lowers
alone-lowers [] = refl
alone-lowers (y ∷ x) = ap (λ (w : Point). y ∷ w) (alone-lowers x)

pub alone-nested : (x : Point) (box : Box) → Inside x box → Nested (alone x) box
alone-nested [] [] h = tt
alone-nested [] (b ∷ box) h = absurd h
alone-nested (y ∷ x) [] h = absurd h
alone-nested (y ∷ x) (b ∷ box) h = (le_in b.lower y h.0.le, le_in y b.upper h.1.le, alone-nested x box h.2)
