-- Document 01, 'Lines and bounds', with document 02's N1. A constraint is its 'line': constant + Σ coefficient · variable ≤ 0, or, where it carries a
-- divisor q, q divides constant + Σ coefficient · variable. Variables are counted from 0.
use Rattle.std.specs.Prelude.{ℕ, zero, suc, ◌/◌, Bool, false, not, cond, ◌&&◌, ◌||◌, List, [], ◌∷◌, map, eqb, ℤ, pos, negsuc, neg_ℤ, nat_abs, ◌+ℤ◌, ◌*ℤ◌, get_or, set}
use Rattle.std.specs.Int.Signed.{le_z, lt_z}
use Rattle.model_problems.specs.Division.{floor_div, ceil_div, exact_div, gcd, divides}
use Rattle.model_problems.specs.Lists.{all_of, all_pairs}
use Rattle.model_problems.specs.Ranges.{within, max_coefficient, max_divisor}

-- N1's 'q' is 0 for an inequality. An input may carry a divisor; a cut never does.
pub record Constraint : Type 0 where
  pub constant : ℤ
  pub coefficients : List ℤ
  pub divisor : ℤ

-- the size of q: 0 for an inequality, above 0 for a divisor constraint
unfoldable pub modulus : Constraint → ℕ
modulus k = nat_abs k.divisor

unfoldable pub is_inequality : Constraint → Bool
is_inequality k = eqb (modulus k) 0

-- the coefficient at variable i, 0 past the last one
unfoldable pub coefficient_at : Constraint → ℕ → ℤ
coefficient_at k i = get_or k.coefficients i (pos 0)

-- 'L' and 'U' of one variable
pub record Bounds : Type 0 where
  pub lower : ℤ
  pub upper : ℤ

-- the bounds of every variable
abbrev pub Box : Type 0
Box = List Bounds

abbrev pub no_bounds : Bounds
no_bounds = record { lower = pos 0; upper = pos 0 }

unfoldable pub lower_at : Box → ℕ → ℤ
lower_at box i = (get_or box i no_bounds).lower

unfoldable pub upper_at : Box → ℕ → ℤ
upper_at box i = (get_or box i no_bounds).upper

-- 'L < U'
unfoldable pub is_open : Bounds → Bool
is_open b = lt_z b.lower b.upper

-- one bound in place of another
unfoldable pub set_lower : ℕ → ℤ → Box → Box
set_lower i v box = set box i (record { lower = v; upper = upper_at box i })

unfoldable pub set_upper : ℕ → ℤ → Box → Box
set_upper i v box = set box i (record { lower = lower_at box i; upper = v })

-- ---- the 'lowest value' of a constraint: its minimum activity
-- a · L for a > 0, a · U for a < 0
unfoldable pub term : ℤ → Bounds → ℤ
term (pos a) b = pos a *ℤ b.lower
term (negsuc a) b = negsuc a *ℤ b.upper

unfoldable pub terms : List ℤ → Box → ℤ
terms [] box = pos 0
terms (a ∷ cs) [] = pos 0
terms (a ∷ cs) (b ∷ box) = term a b +ℤ terms cs box

unfoldable pub activity : Constraint → Box → ℤ
activity k box = k.constant +ℤ terms k.coefficients box

-- ---- a divisor constraint in a box
-- the greatest common divisor of q and the coefficients of the variables with L < U
unfoldable pub open_divisor : ℕ → List ℤ → Box → ℕ
open_divisor q [] box = q
open_divisor q (a ∷ cs) [] = q
open_divisor q (a ∷ cs) (b ∷ box) = cond (is_open b) (gcd (nat_abs a) (open_divisor q cs box)) (open_divisor q cs box)

-- 'the rest's value': the constant, and a · L of the variables with L = U
unfoldable pub fixed_terms : List ℤ → Box → ℤ
fixed_terms [] box = pos 0
fixed_terms (a ∷ cs) [] = pos 0
fixed_terms (a ∷ cs) (b ∷ box) = cond (is_open b) (fixed_terms cs box) (a *ℤ b.lower +ℤ fixed_terms cs box)

unfoldable pub fixed_value : Constraint → Box → ℤ
fixed_value k box = k.constant +ℤ fixed_terms k.coefficients box

-- ---- 'false': the minimum activity of an inequality is above 0; of a divisor constraint that greatest common divisor does not divide the rest's value
unfoldable pub falsified_by : ℕ → Constraint → Box → Bool
falsified_by zero k box = lt_z (pos 0) (activity k box)
falsified_by (suc q) k box = not (divides (open_divisor (suc q) k.coefficients box) (fixed_value k box))

unfoldable pub falsified : Constraint → Box → Bool
falsified k box = falsified_by (modulus k) k box

-- ---- the bounds that a constraint implies for a variable with coefficient a or −a; p is its activity without that variable
unfoldable pub implied_upper : ℤ → ℕ → ℤ
implied_upper p a = floor_div (neg_ℤ p) a

unfoldable pub implied_lower : ℤ → ℕ → ℤ
implied_lower p a = ceil_div p a

-- ---- 'rounding'
-- the greatest common divisor of the coefficients; 0 where they are all 0
unfoldable pub common_divisor : List ℤ → ℕ
common_divisor [] = 0
common_divisor (a ∷ cs) = gcd (nat_abs a) (common_divisor cs)

-- divided by h, the constant rounded up
unfoldable pub rounded_by : ℕ → Constraint → Constraint
rounded_by zero k = k
rounded_by (suc h) k = record { constant = ceil_div k.constant (suc h); coefficients = map (exact_div (suc h)) k.coefficients; divisor = k.divisor }

-- a divisor constraint stays
unfoldable pub rounded_as : ℕ → Constraint → Constraint
rounded_as zero k = rounded_by (common_divisor k.coefficients) k
rounded_as (suc q) k = k

unfoldable pub rounded : Constraint → Constraint
rounded k = rounded_as (modulus k) k

-- ---- 'combining': resolving F with J at variable i
unfoldable pub mixed : ℕ → List ℤ → ℕ → List ℤ → List ℤ
mixed s [] t bs = []
mixed s (a ∷ cs) t [] = []
mixed s (a ∷ cs) t (b ∷ bs) = (pos s *ℤ a +ℤ pos t *ℤ b) ∷ mixed s cs t bs

-- s · F + t · J
unfoldable pub combination : ℕ → Constraint → ℕ → Constraint → Constraint
combination s f t j =
    record { constant = pos s *ℤ f.constant +ℤ pos t *ℤ j.constant; coefficients = mixed s f.coefficients t j.coefficients; divisor = pos 0 }

unfoldable pub resolvent : ℕ → Constraint → Constraint → Constraint
resolvent i f j =
    let a = nat_abs (coefficient_at f i) in
    let b = nat_abs (coefficient_at j i) in
    let g = gcd a b in
    rounded (combination (b / g) f (a / g) j)

-- the coefficients are of opposite sign
unfoldable pub opposite : ℤ → ℤ → Bool
opposite (pos zero) b = false
opposite (pos (suc a)) b = lt_z b (pos 0)
opposite (negsuc a) b = lt_z (pos 0) b

-- ---- tests
unfoldable pub in_range : Constraint → Bool
in_range k = within max_coefficient k.constant && all_of (within max_coefficient) k.coefficients

unfoldable pub equalℤ : ℤ → ℤ → Bool
equalℤ (pos a) (pos b) = eqb a b
equalℤ (pos a) (negsuc b) = false
equalℤ (negsuc a) (pos b) = false
equalℤ (negsuc a) (negsuc b) = eqb a b

-- none, or 2 to the limit
unfoldable pub none_or_from_two : ℤ → ℤ → Bool
none_or_from_two limit q = equalℤ q (pos 0) || (le_z (pos 2) q && le_z q limit)

-- a divisor that a constraint may carry
unfoldable pub is_divisor : ℤ → Bool
is_divisor q = none_or_from_two (pos max_divisor) q

unfoldable pub divisor_in_range : Constraint → Bool
divisor_in_range k = is_divisor k.divisor

unfoldable pub equal : Constraint → Constraint → Bool
equal k l = equalℤ k.divisor l.divisor && (equalℤ k.constant l.constant && all_pairs equalℤ k.coefficients l.coefficients)
