-- The sizes of the numbers of a constraint: in range, rounded, combined, resolved.
use Prim.Native.Nat.{ℕ, zero, suc, ◌+◌, ◌/◌, ◌≤◌, ◌<◌, ◌^◌}
use native.Mathlib.Omega.{arith}
use native.Mathlib.Nat.{div-le_self}
use mathlib.Core.Bool.{true}
use mathlib.Core.List.{List, [], ◌∷◌, map}
use mathlib.Core.Logic.{⊎_elim}
use mathlib.Core.Path.{◌≡◌, refl}
use lib.IntN.{ℤ, pos, nat_abs, ◌+ℤ◌, ◌*ℤ◌}
use lib.Signed.{mag}
use lib.ListN.{get_or, length}
use mir.Syntax.{w64}
use mir.Val.{to_z, of_z}
use Rattle.model_problems.specs.Ranges.{within, max_coefficient}
use Rattle.model_problems.specs.Division.{exact_div, gcd}
use Rattle.model_problems.specs.Lists.{all_of}
use Rattle.model_problems.specs.Constraint.{Constraint, modulus, coefficient_at, common_divisor, rounded_by, rounded_as, rounded, mixed, combination, resolvent, in_range}
use Rattle.integer.specs.Size.{Within, weaken, between_in, between-out}
use Rattle.integer.specs.Rounding.{ceil-size, exact-size}
use Rattle.integer.specs.Divisor.{gcd-most}
use Rattle.integer.specs.Automatic.{exps, within! }
use Rattle.lists.proofs.Bools.{true_of, T_of, and-true, and_both, lt-or-le}
use Rattle.lists.proofs.AllOf.{all_of-get_d, all_of-of}
use Rattle.layout.specs.Rows.{number_in, cell, constraint_at}
use Rattle.layout.proofs.Rows.{coefficient-at}
use Rattle.layout.proofs.Elements.{number_read}
use Rattle.derivation.specs.Sized.{max_combined, Sized}

-- ---- a list of coefficients, 0 past its end
abbrev Small : ℕ → List ℤ → Type 0
Small b cs = (i : ℕ) → Within b (get_or cs i (pos 0))

zero-within : {b : ℕ} → Within b (pos 0)
zero-within = record { within = omega arith }

-- ---- document 01's range, as sizes and back
within_in : (b : ℕ) (z : ℤ) → within b z ≡ true → Within b z
unfolding within
within_in b z e = record { within = between_in b z (T_of e) }

within-out : (b : ℕ) (z : ℤ) → Within b z → within b z ≡ true
unfolding within
within-out b z h = true_of _ (between-out b z h.within)

past : (cs : List ℤ) (i : ℕ) → length cs ≤ i → get_or cs i (pos 0) ≡ pos 0
past [] i l = refl
past (c ∷ cs) zero l = absurd (omega arith)
past (c ∷ cs) (suc i) l = past cs i (omega arith)

pub range-sized : (k : Constraint) → in_range k ≡ true → Sized max_coefficient k
unfolding in_range coefficient_at
range-sized k e =
    let both = and-true (within max_coefficient k.constant) (all_of (within max_coefficient) k.coefficients) e in
    record {
      constant = within_in max_coefficient k.constant both.0;
      coefficient = λ i. ⊎_elim
          (λ (l : i < length k.coefficients). within_in max_coefficient _ (all_of-get_d (within max_coefficient) k.coefficients i (pos 0) both.1 l))
          (λ (l : length k.coefficients ≤ i). rw (past k.coefficients i l) zero-within)
          (lt-or-le i (length k.coefficients));
    }

pub sized_range : (k : Constraint) → Sized max_coefficient k → in_range k ≡ true
unfolding in_range coefficient_at
sized_range k h =
    and_both (within-out max_coefficient k.constant h.constant)
    (all_of-of (within max_coefficient) k.coefficients (pos 0) (λ i l. within-out max_coefficient _ (h.coefficient i)))

-- ---- the numbers of a row in range, as the code reads them
number-within : (n : ℕ) (row : List ℤ) (i : ℕ) → i ≤ n → in_range (constraint_at n row 0) ≡ true → Within max_coefficient (number_in row i)
unfolding constraint_at cell
number-within n row zero l e = (range-sized (constraint_at n row 0) e).constant
number-within n row (suc i) l e =
    let o : 0 + 1 + i ≡ suc i = omega arith in
    rw (coefficient-at n row 0 i (omega arith), o) at ((range-sized (constraint_at n row 0) e).coefficient i)

pub number-read_within : (n : ℕ) (row : List ℤ) (i : ℕ) → i ≤ n → in_range (constraint_at n row 0) ≡ true → mag (get_or row i (pos 0)) < 2 ^ 63 →
    Within max_coefficient (to_z w64 (of_z w64 (get_or row i (pos 0))))
number-read_within n row i l e h = rw (number_read row i h) (number-within n row i l e)

-- ---- rounding makes no number larger
divisor-most : {b : ℕ} (cs : List ℤ) → Small b cs → common_divisor cs ≤ b
unfolding common_divisor
divisor-most [] h = omega arith
divisor-most {b} (c ∷ cs) h = gcd-most (nat_abs c) (common_divisor cs) b (h 0).within (divisor-most cs (λ i. h (suc i)))

pub divisor-sized : {b : ℕ} (k : Constraint) → Sized b k → common_divisor k.coefficients ≤ b
unfolding coefficient_at
divisor-sized k h = divisor-most k.coefficients h.coefficient

divided-small : {b : ℕ} (d : ℕ) (cs : List ℤ) → Small b cs → Small b (map (exact_div d) cs)
divided-small d [] h i = h i
divided-small d (c ∷ cs) h zero = weaken (h 0).within (record { within = exact-size d c })
divided-small d (c ∷ cs) h (suc i) = divided-small d cs (λ j. h (suc j)) i

by-sized : {b : ℕ} (d : ℕ) (k : Constraint) → Sized b k → Sized b (rounded_by d k)
unfolding rounded_by coefficient_at
by-sized zero k h = h
by-sized (suc d) k h =
    record {
      constant = weaken h.constant.within (record { within = ceil-size k.constant (suc d) });
      coefficient = divided-small (suc d) k.coefficients h.coefficient;
    }

as-sized : {b : ℕ} (q : ℕ) (k : Constraint) → Sized b k → Sized b (rounded_as q k)
unfolding rounded_as
as-sized zero k h = by-sized (common_divisor k.coefficients) k h
as-sized (suc q) k h = h

pub rounded-sized : {b : ℕ} (k : Constraint) → Sized b k → Sized b (rounded k)
unfolding rounded
rounded-sized k h = as-sized (modulus k) k h

pub rounded-range : (k : Constraint) → in_range k ≡ true → in_range (rounded k) ≡ true
rounded-range k e = sized_range (rounded k) (rounded-sized k (range-sized k e))

-- ---- a combination, with multipliers that are in range too
products-within : (p a q b : ℤ) → Within max_coefficient p → Within max_coefficient a → Within max_coefficient q → Within max_coefficient b →
    Within max_combined (p *ℤ a +ℤ q *ℤ b)
products-within p a q b u h v k = within! (search exps depth 8) tt

mixed-small : (s t : ℕ) (cs ds : List ℤ) → s ≤ max_coefficient → t ≤ max_coefficient → Small max_coefficient cs → Small max_coefficient ds →
    Small max_combined (mixed s cs t ds)
unfolding mixed
mixed-small s t [] ds p q h k i = zero-within
mixed-small s t (c ∷ cs) [] p q h k i = zero-within
mixed-small s t (c ∷ cs) (d ∷ ds) p q h k zero =
    products-within (pos s) c (pos t) d (record { within = p }) (h 0) (record { within = q }) (k 0)
mixed-small s t (c ∷ cs) (d ∷ ds) p q h k (suc i) = mixed-small s t cs ds p q (λ j. h (suc j)) (λ j. k (suc j)) i

pub combination-sized : (s t : ℕ) (f j : Constraint) → s ≤ max_coefficient → t ≤ max_coefficient → in_range f ≡ true → in_range j ≡ true →
    Sized max_combined (combination s f t j)
unfolding combination coefficient_at
combination-sized s t f j p q e d =
    let h = range-sized f e in
    let k = range-sized j d in
    record {
      constant = products-within (pos s) f.constant (pos t) j.constant (record { within = p }) h.constant (record { within = q }) k.constant;
      coefficient = mixed-small s t f.coefficients j.coefficients p q h.coefficient k.coefficient;
    }

-- the multipliers of 'combining' are in range
pub multiplier-most : (k : Constraint) (i g : ℕ) → in_range k ≡ true → nat_abs (coefficient_at k i) / g ≤ max_coefficient
multiplier-most k i g e = omega (arith, div-le_self (nat_abs (coefficient_at k i)) g, ((range-sized k e).coefficient i).within)

pub resolvent-sized : (i : ℕ) (f j : Constraint) → in_range f ≡ true → in_range j ≡ true → Sized max_combined (resolvent i f j)
unfolding resolvent
resolvent-sized i f j e d =
    let g = gcd (nat_abs (coefficient_at f i)) (nat_abs (coefficient_at j i)) in
    rounded-sized _ (combination-sized _ _ f j (multiplier-most j i g d) (multiplier-most f i g e) e d)
