-- Division with rounding, the greatest common divisor, exact division, and divisibility.
use Rattle.std.specs.Prelude.{ℕ, zero, suc, ◌/◌, ◌%◌, Bool, eqb, ℤ, pos, negsuc, neg_ℤ, nat_abs}

-- z / d rounded down, for d of at least 1: -1 - a rounded down is -1 - a / d
unfoldable pub floor_div : ℤ → ℕ → ℤ
floor_div (pos a) d = pos (a / d)
floor_div (negsuc a) d = negsuc (a / d)

-- z / d rounded up
unfoldable pub ceil_div : ℤ → ℕ → ℤ
ceil_div z d = neg_ℤ (floor_div (neg_ℤ z) d)

-- z / d where d divides z
unfoldable pub exact_div : ℕ → ℤ → ℤ
exact_div d (pos a) = pos (a / d)
exact_div d (negsuc a) = neg_ℤ (pos (suc a / d))

-- Euclid's algorithm. The fuel only has to exceed the second number, which falls at each call.
unfoldable pub gcd_with : ℕ → ℕ → ℕ → ℕ
gcd_with zero a b = a
gcd_with (suc fuel) a zero = a
gcd_with (suc fuel) a (suc b) = gcd_with fuel (suc b) (a % suc b)

-- the greatest common divisor of two numbers; of 0 and 0 it is 0
unfoldable pub gcd : ℕ → ℕ → ℕ
gcd a b = gcd_with (suc b) a b

-- d divides z, for d of at least 1
unfoldable pub divides : ℕ → ℤ → Bool
divides d z = eqb (nat_abs z % d) 0
