-- Division toward zero, as `/` and `%` of signed numbers do it: the kit's quot_z and rem_z.
use Rattle.std.specs.Prelude.{◌≡◌, refl, ℕ, suc, ◌/◌, ◌%◌, ◌<◌, ℤ, pos, negsuc, neg_ℤ, nat_abs, ◌+ℤ◌, ◌-ℤ◌, ◌*ℤ◌, ◌<ℤ◌}
use Rattle.std.proofs.Common.{ap, arith, div-mul-le_self, div-le_self, div-add-mod', mod-lt}
use Rattle.std.specs.Int.{◌∣◌}
use Rattle.std.proofs.Math.Nat.{lt-div-mul-add, mod-le, div-mul_cancel}
use Rattle.std.specs.Int.Signed.{quot_z, rem_z}
use Rattle.integer.specs.Expression.{rep, nat, lt, eq, of_lt}
use Rattle.integer.specs.Size.{Within, abs-mul, abs_neg}

-- ---- the quotient and the remainder give the number back: `quot-rem p a`
pub quot-rem : (p a : ℤ) → quot_z p a *ℤ a +ℤ rem_z p a ≡ p
quot-rem (pos n) (pos a) = eq (search rep) (search rep) (omega (arith, div-add-mod' n a))
quot-rem (pos n) (negsuc a) = eq (search rep) (search rep) (omega (arith, div-add-mod' n (suc a)))
quot-rem (negsuc n) (pos a) = eq (search rep) (search rep) (omega (arith, div-add-mod' (suc n) a))
quot-rem (negsuc n) (negsuc a) = eq (search rep) (search rep) (omega (arith, div-add-mod' (suc n) (suc a)))

-- by a divisor, with no remainder
pub quot-exact : (a : ℤ) (h : ℕ) → h ∣ nat_abs a → quot_z a (pos h) *ℤ pos h ≡ a
quot-exact (pos n) h d = ap pos (div-mul_cancel h d)
quot-exact (negsuc n) h d = eq (search rep) (search rep) (omega (arith, div-mul_cancel h d))

-- ---- at a positive divisor a, (q − 1) · a < p < (q + 1) · a
pub quot-lo : (p a : ℤ) → pos 0 <ℤ a → ((quot_z p a -ℤ pos 1) *ℤ a) <ℤ p
quot-lo (pos n) (pos a) h = lt (search rep) (search rep) (omega (arith, div-mul-le_self n a, of_lt (nat 0) (nat a) h))
quot-lo (negsuc n) (pos a) h =
    let ha : 0 < a = omega (arith, of_lt (nat 0) (nat a) h) in
    lt (search rep) (search rep) (omega (arith, lt-div-mul-add {a = suc n} {b = a} ha))
quot-lo p (negsuc a) h = absurd h.lt

pub quot-hi : (p a : ℤ) → pos 0 <ℤ a → p <ℤ ((quot_z p a +ℤ pos 1) *ℤ a)
quot-hi (pos n) (pos a) h =
    let ha : 0 < a = omega (arith, of_lt (nat 0) (nat a) h) in
    lt (search rep) (search rep) (omega (arith, lt-div-mul-add {a = n} {b = a} ha))
quot-hi (negsuc n) (pos a) h =
    lt (search rep) (search rep) (omega (arith, div-mul-le_self (suc n) a, of_lt (nat 0) (nat a) h))
quot-hi p (negsuc a) h = absurd h.lt

-- and the remainder is nearer to zero than a
pub rem_below : (p a : ℤ) → pos 0 <ℤ a → rem_z p a <ℤ a
rem_below (pos n) (pos a) h =
    let ha : 0 < a = omega (arith, of_lt (nat 0) (nat a) h) in
    lt (search rep) (search rep) (omega (arith, mod-lt n ha))
rem_below (negsuc n) (pos a) h = lt (search rep) (search rep) (omega (arith, of_lt (nat 0) (nat a) h))
rem_below p (negsuc a) h = absurd h.lt

pub rem-above : (p a : ℤ) → pos 0 <ℤ a → neg_ℤ a <ℤ rem_z p a
rem-above (pos n) (pos a) h = lt (search rep) (search rep) (omega (arith, of_lt (nat 0) (nat a) h))
rem-above (negsuc n) (pos a) h =
    let ha : 0 < a = omega (arith, of_lt (nat 0) (nat a) h) in
    lt (search rep) (search rep) (omega (arith, mod-lt (suc n) ha))
rem-above p (negsuc a) h = absurd h.lt

-- ---- sizes, at any divisor: `fits (lit< tt) (quot-within a h)` shows that a quotient does not overflow
pub quot-abs : (p a : ℤ) → nat_abs (quot_z p a) ≡ nat_abs p / nat_abs a
quot-abs (pos n) (pos a) = refl
quot-abs (pos n) (negsuc a) = abs_neg (pos (n / suc a))
quot-abs (negsuc n) (pos a) = abs_neg (pos (suc n / a))
quot-abs (negsuc n) (negsuc a) = refl

pub quot-within : {p : ℤ} {n : ℕ} (a : ℤ) → Within n p → Within n (quot_z p a)
quot-within {p} a h = record { within = omega (arith, quot-abs p a, div-le_self (nat_abs p) (nat_abs a)) }

pub quot-mul-within : {p : ℤ} {n : ℕ} (a : ℤ) → Within n p → Within n (quot_z p a *ℤ a)
quot-mul-within {p} a h =
    record { within = rw (abs-mul (quot_z p a) a, quot-abs p a) (omega (arith, div-mul-le_self (nat_abs p) (nat_abs a))) }

pub rem-within : {p : ℤ} {n : ℕ} (a : ℤ) → Within n p → Within n (rem_z p a)
rem-within {p = pos k} a h = record { within = omega (arith, mod-le k (nat_abs a)) }
rem-within {p = negsuc k} a h = record { within = omega (arith, abs_neg (pos (suc k % nat_abs a)), mod-le (suc k) (nat_abs a)) }
