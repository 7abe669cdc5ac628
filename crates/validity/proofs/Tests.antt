-- Validity's tests of numbers, boxes and reasons, as facts and back.
use Prim.Native.Nat.{ℕ, zero, suc, ◌+◌, ◌-◌, ◌≤◌, ◌<◌, min}
use native.Mathlib.Omega.{arith}
use mathlib.Core.Bool.{Bool, true, false, ◌&&◌, cond}
use mathlib.Core.List.{List, [], ◌∷◌}
use mathlib.Core.Path.{◌≡◌, refl, ap}
use lib.Dec.{T, leb, ltb, eqb, le→leb, ltb→lt, eqb→eq, eqb_refl}
use lib.IntN.{ℤ, pos, negsuc, neg_ℤ}
use lib.Signed.{le_z}
use lib.ListN.{length, length-append}
use mir.Facts.{and_yes, yes_and}
use Rattle.model_problems.specs.Lists.{all_of, all_pairs}
use Rattle.model_problems.specs.Ranges.{max_cuts, max_bound, within}
use Rattle.model_problems.specs.Constraint.{Constraint, Box, lower_at, upper_at, equalℤ, equal}
use Rattle.model_problems.specs.Problem.{bounds_in_range}
use Rattle.model_walk.specs.Search.{constraint, Reasons, reasons_at, Core, kept, dropped, number_at}
use Rattle.model_walk.specs.Validity.{reason_valid, reasons_valid, inside, box_inside}
use Rattle.integer.specs.Parts.{◌⊑◌, le_in, le_out, eq-out}
use Rattle.lists.proofs.Bools.{true_of, T_of}
use Rattle.lists.proofs.AllPairs.{pairs-equal, pairs-refl}
use Rattle.validity.proofs.Boxes.{Ordered, Nested}
use Rattle.validity.proofs.Every.{◌&◌, all_in, all-out}

-- ---- equality
pub equal-in : (a b : ℤ) → T (equalℤ a b) → a ≡ b
unfolding equalℤ
equal-in (pos a) (pos b) t = ap pos (eqb→eq a b t)
equal-in (pos a) (negsuc b) t = absurd t
equal-in (negsuc a) (pos b) t = absurd t
equal-in (negsuc a) (negsuc b) t = ap negsuc (eqb→eq a b t)

pub equal-refl : (a : ℤ) → T (equalℤ a a)
unfolding equalℤ
equal-refl (pos a) = eqb_refl a
equal-refl (negsuc a) = eqb_refl a

pub same-constraint : (k l : Constraint) → T (equal k l) → k ≡ l
unfolding equal
same-constraint k l t =
    let pairs = all_pairs equalℤ k.coefficients l.coefficients in
    let constant = equalℤ k.constant l.constant in
    let h = and_yes (equalℤ k.divisor l.divisor) (constant && pairs) t in
    let i = and_yes constant pairs h.1 in
    let divisors = equal-in k.divisor l.divisor h.0 in
    let constants = equal-in k.constant l.constant i.0 in
    let coefficients = pairs-equal equalℤ (λ a b e. equal-in a b (T_of e)) k.coefficients l.coefficients (true_of pairs i.1) in
    rw (constants, coefficients, divisors)

pub eqb-out : (a b : ℕ) → a ≡ b → T (eqb a b)
eqb-out a b e = rw e (eqb_refl b)

pub numbers-in : (xs ys : List ℕ) → T (all_pairs eqb xs ys) → xs ≡ ys
numbers-in xs ys t = pairs-equal eqb (λ a b e. eqb→eq a b (T_of e)) xs ys (true_of (all_pairs eqb xs ys) t)

pub numbers-out : (xs ys : List ℕ) → xs ≡ ys → T (all_pairs eqb xs ys)
numbers-out xs ys e = rw e (T_of (pairs-refl eqb (λ a. true_of (eqb a a) (eqb_refl a)) ys))

-- ---- boxes
pub nested-in : (box outer : Box) → T (box_inside box outer) → Nested box outer
unfolding box_inside all_pairs inside
nested-in [] [] t = tt
nested-in [] (o ∷ outer) t = t
nested-in (b ∷ box) [] t = t
nested-in (b ∷ box) (o ∷ outer) t =
    let h = and_yes (inside b o) (all_pairs inside box outer) t in
    let i = and_yes (le_z o.lower b.lower) (le_z b.upper o.upper) h.0 in
    (le_in o.lower b.lower i.0, le_in b.upper o.upper i.1, nested-in box outer h.1)

pub nested-out : (box outer : Box) → Nested box outer → T (box_inside box outer)
unfolding box_inside all_pairs inside
nested-out [] [] n = tt
nested-out [] (o ∷ outer) n = n
nested-out (b ∷ box) [] n = n
nested-out (b ∷ box) (o ∷ outer) n =
    yes_and (inside b o) (all_pairs inside box outer)
    (yes_and (le_z o.lower b.lower) (le_z b.upper o.upper) (le_out o.lower b.lower n.0) (le_out b.upper o.upper n.1))
    (nested-out box outer n.2)

pub range-ordered : (box : Box) → T (all_of bounds_in_range box) → Ordered box
unfolding all_of bounds_in_range
range-ordered [] t = tt
range-ordered (b ∷ box) t =
    let h = and_yes (bounds_in_range b) (all_of bounds_in_range box) t in
    let i = all_in _ h.0 in
    (le_in b.lower b.upper i.1.1.0, range-ordered box h.1)

-- a bound between two that are in range
between-within : (m : ℕ) (l z u : ℤ) → l ⊑ z → z ⊑ u → T (within m l) → T (within m u) → T (within m z)
unfolding within
between-within m l z u g h s t =
    let low = neg_ℤ (pos m) in
    let high = pos m in
    let i = le_in low l (and_yes (le_z low l) (le_z l high) s).0 in
    let j = le_in u high (and_yes (le_z low u) (le_z u high) t).1 in
    yes_and (le_z low z) (le_z z high) (le_out low z (omega arith)) (le_out z high (omega arith))

pub range-nested : (box outer : Box) → Ordered box → Nested box outer → T (all_of bounds_in_range outer) → T (all_of bounds_in_range box)
unfolding all_of bounds_in_range
range-nested [] outer r n t = tt
range-nested (b ∷ box) [] r n t = absurd n
range-nested (b ∷ box) (o ∷ outer) r n t =
    let h = and_yes (bounds_in_range o) (all_of bounds_in_range outer) t in
    let i = all_in _ h.0 in
    yes_and (bounds_in_range b) (all_of bounds_in_range box)
    (all-out _ (
    between-within max_bound o.lower b.lower o.upper n.0 (omega arith) i.0 i.1.0 &
    between-within max_bound o.lower b.upper o.upper (omega arith) n.1 i.0 i.1.0 &
    le_out b.lower b.upper r.0 &
    tt))
    (range-nested box outer r.1 n.2 h.1)

-- a variable that is fixed stays as it is
pub fixed-nested : (i : ℕ) (box outer : Box) → Ordered box → Nested box outer → upper_at outer i ⊑ lower_at outer i → (lower_at box i ≡ lower_at outer i) × (upper_at box i ≡ lower_at outer i)
unfolding lower_at upper_at
fixed-nested i [] [] r n e = (refl, refl)
fixed-nested i [] (o ∷ outer) r n e = absurd n
fixed-nested i (b ∷ box) [] r n e = absurd n
fixed-nested zero (b ∷ box) (o ∷ outer) r n e = (eq-out b.lower o.lower (omega arith), eq-out b.upper o.lower (omega arith))
fixed-nested (suc i) (b ∷ box) (o ∷ outer) r n e = fixed-nested i box outer r.1 n.2 e

-- ---- reasons
pub valid-reasons-at : (last i : ℕ) (rs : List Reasons) → T (all_of (reasons_valid last) rs) →
    T (reason_valid last (reasons_at rs i).lower) × T (reason_valid last (reasons_at rs i).upper)
unfolding all_of reasons_at reasons_valid reason_valid
valid-reasons-at last i [] t = (tt, tt)
valid-reasons-at last zero (r ∷ rs) t = and_yes (reason_valid last r.lower) (reason_valid last r.upper) (and_yes (reasons_valid last r) (all_of (reasons_valid last) rs) t).0
valid-reasons-at last (suc i) (r ∷ rs) t = valid-reasons-at last i rs (and_yes (reasons_valid last r) (all_of (reasons_valid last) rs) t).1

-- the number of a kept constraint
number-between : (m cuts made j : ℕ) (b : Bool) → (T b → j < m) → cuts ≡ min made max_cuts → j < m + cuts →
    (1 ≤ cond b (suc j) (suc (j + (made - max_cuts)))) × (cond b (suc j) (suc (j + (made - max_cuts))) ≤ m + made)
number-between m cuts made j true g e h = let l = g tt in omega arith
number-between m cuts made j false g e h = omega arith

pub number-valid : (c : Core) (j : ℕ) → length c.cuts ≡ min c.made max_cuts → j < length (kept c) →
    T (reason_valid (length c.inputs + c.made) (constraint (number_at c j)))
unfolding reason_valid number_at dropped kept
number-valid c j e h =
    let m = length c.inputs in
    let last = m + c.made in
    let k = number_at c j in
    let r = number-between m (length c.cuts) c.made j (ltb j m) (ltb→lt j m) e (omega (arith, length-append c.inputs c.cuts)) in
    yes_and (leb 1 k) (leb k last) (le→leb 1 k r.0) (le→leb k last r.1)
