-- Facts of integers and needs of overflow, in a line. An `Exp z` is z's expression with a bound on its size: `search exps` finds it from the
-- `Within` facts in scope, through sums, products, division, and the machine's bits and back; then z's fact is one of naturals, or computes.
-- A larger expression wants `search exps depth 8`, or more. The examples below have in scope
--     a b : ℤ,  h : Within (2 ^ 30) a,  k : Within (2 ^ 30) b
use Rattle.std.specs.Prelude.{◌≡◌, refl, Bool, true, ◌&&◌, ℕ, suc, ◌+◌, ◌*◌, ◌<◌, ◌≤◌, ◌^◌, T, ltb, leb, ℤ, pos, negsuc, neg_ℤ, nat_abs, ◌+ℤ◌, ◌*ℤ◌, ◌≤ℤ◌, ◌<ℤ◌}
use Rattle.std.proofs.Common.{sym, subst, arith, mul-le-mul, le_refl, ltb→lt, leb→le, Fits, SFits, to_z, of_z, to_z-of_z}
use Rattle.std.specs.Int.Signed.{quot_z, rem_z, non_neg, yes_non_neg}
use Rattle.std.specs.Int.{w64}
use Rattle.model_problems.specs.Division.{floor_div, ceil_div, exact_div}
use Rattle.integer.specs.Parts.{up, down}
use Rattle.integer.specs.Expression as E
use Rattle.integer.specs.Expression.{Rep, add_ok, mul_ok, neg-ok, nat-ok}
use Rattle.integer.specs.Size.{Within, fits, abs-add, abs-mul, abs_neg}
use Rattle.integer.specs.Tests.{and_left, and_right}
use Rattle.integer.specs.Rounding.{floor-size, ceil-size, exact-size}
use Rattle.integer.specs.Truncating.{quot-within, rem-within}

-- z is p − n, and at most `most` away from zero
pub record Sure (z : ℤ) (p n most : ℕ) : Type 0 where
  pub ok : up z + n ≡ p + down z
  pub small : nat_abs z ≤ most

-- an expression, sure where the test `fine` passes: what is read back from bits is what was written only if it had room
pub data Exp (z : ℤ) : Type 0 where
  mk : (p n most : ℕ) (fine : Bool) → (T fine → Sure z p n most) → Exp z

abbrev pub plus : {z : ℤ} → Exp z → ℕ
plus (mk p n m f h) = p

abbrev pub minus : {z : ℤ} → Exp z → ℕ
minus (mk p n m f h) = n

abbrev pub most : {z : ℤ} → Exp z → ℕ
most (mk p n m f h) = m

abbrev pub fine : {z : ℤ} → Exp z → Bool
fine (mk p n m f h) = f

pub sure : {z : ℤ} (x : Exp z) → T (fine x) → Sure z (plus x) (minus x) (most x)
sure (mk p n m f h) t = h t

-- ---- the answers
module _ {z : ℤ} (x : Exp z) where
  -- no overflow, for `SFits w64 (a *ℤ b +ℤ a)`: `fits! (search exps) tt`
  pub fits! : T (fine x && ltb (most x) (2 ^ 63)) → SFits w64 z
  fits! t =
      fits {n = most x} (ltb→lt (most x) (2 ^ 63) (and_right (fine x) (ltb (most x) (2 ^ 63)) t))
      (record { within = (sure x (and_left (fine x) (ltb (most x) (2 ^ 63)) t)).small })

  -- a bound, for `Within (2 ^ 61) (a *ℤ b +ℤ a)`: `within! (search exps) tt`
  pub within! : {m : ℕ} → T (fine x && leb (most x) m) → Within m z
  within! {m} t =
      let u = sure x (and_left (fine x) (leb (most x) m) t) in
      let l = leb→le (most x) m (and_right (fine x) (leb (most x) m) t) in
      record { within = omega (arith, u.small) }

  -- what a cast to `u64` asks of a number that is not negative. For b +ℤ pos 1, with `l : pos 0 ≤ℤ b`:
  --     cast! {z = b +ℤ pos 1} (search exps) tt (omega (arith, of-le! (search exps) (search exps) tt l))
  pub cast! : T (fine x && ltb (most x) (2 ^ 64)) → minus x ≤ plus x → T (non_neg z) × Fits w64 (nat_abs z)
  cast! t h =
      let u = sure x (and_left (fine x) (ltb (most x) (2 ^ 64)) t) in
      let l = ltb→lt (most x) (2 ^ 64) (and_right (fine x) (ltb (most x) (2 ^ 64)) t) in
      (yes_non_neg (E.le (E.nat 0) (E.var z) (omega (arith, u.ok))), record { fits = omega (arith, u.small) })

module _ {a b : ℤ} (x : Exp a) (y : Exp b) (t : T (fine x && fine y)) where
  rx : Rep a
  rx = record { p = plus x; n = minus x; ok = (sure x (and_left (fine x) (fine y) t)).ok }

  ry : Rep b
  ry = record { p = plus y; n = minus y; ok = (sure y (and_right (fine x) (fine y) t)).ok }

  -- an equation, for `to_z w64 (of_z w64 (a *ℤ b)) +ℤ a ≡ a *ℤ (b +ℤ pos 1)`:
  --     eq! (search exps depth 8) (search exps) tt (omega arith)
  pub eq! : plus x + minus y ≡ plus y + minus x → a ≡ b
  unfolding rx ry
  eq! h = E.eq rx ry h

  -- an order, for `(a -ℤ pos 1) <ℤ a`: `lt! (search exps) (search exps) tt (omega arith)`
  pub le! : plus x + minus y ≤ plus y + minus x → a ≤ℤ b
  unfolding rx ry
  le! h = E.le rx ry h

  pub lt! : plus x + minus y < plus y + minus x → a <ℤ b
  unfolding rx ry
  lt! h = E.lt rx ry h

  -- and back: `omega (arith, of-le! (search exps) (search exps) tt l)` reads an `l : (a +ℤ b) ≤ℤ pos 7`
  pub of-eq! : a ≡ b → plus x + minus y ≡ plus y + minus x
  unfolding rx ry
  of-eq! h = E.of_eq rx ry h

  pub of-le! : a ≤ℤ b → plus x + minus y ≤ plus y + minus x
  unfolding rx ry
  of-le! h = E.of_le rx ry h

  pub of-lt! : a <ℤ b → plus x + minus y < plus y + minus x
  unfolding rx ry
  of-lt! h = E.of_lt rx ry h

-- ---- the rules of `exps`. Each is an expression with the proof that it is sure
pub add-sure : {a b : ℤ} (x : Exp a) (y : Exp b) → T (fine x && fine y) → Sure (a +ℤ b) (plus x + plus y) (minus x + minus y) (most x + most y)
add-sure {a} {b} x y t =
    let u = sure x (and_left (fine x) (fine y) t) in
    let v = sure y (and_right (fine x) (fine y) t) in
    record { ok = add_ok a b (plus x) (minus x) (plus y) (minus y) u.ok v.ok; small = omega (arith, abs-add a b, u.small, v.small) }

abbrev pub add : {a b : ℤ} → Exp a → Exp b → Exp (a +ℤ b)
add x y = mk (plus x + plus y) (minus x + minus y) (most x + most y) (fine x && fine y) (add-sure x y)

pub mul-sure : {a b : ℤ} (x : Exp a) (y : Exp b) → T (fine x && fine y) →
    Sure (a *ℤ b) (plus x * plus y + minus x * minus y) (plus x * minus y + minus x * plus y) (most x * most y)
mul-sure {a} {b} x y t =
    let u = sure x (and_left (fine x) (fine y) t) in
    let v = sure y (and_right (fine x) (fine y) t) in
    record { ok = mul_ok a b (plus x) (minus x) (plus y) (minus y) u.ok v.ok; small = rw (abs-mul a b) (mul-le-mul u.small v.small) }

abbrev pub mul : {a b : ℤ} → Exp a → Exp b → Exp (a *ℤ b)
mul x y = mk (plus x * plus y + minus x * minus y) (plus x * minus y + minus x * plus y) (most x * most y) (fine x && fine y) (mul-sure x y)

pub neg-sure : {a : ℤ} (x : Exp a) → T (fine x) → Sure (neg_ℤ a) (minus x) (plus x) (most x)
neg-sure {a} x t = record { ok = neg-ok a (plus x) (minus x) (sure x t).ok; small = rw (abs_neg a) (sure x t).small }

abbrev pub neg : {a : ℤ} → Exp a → Exp (neg_ℤ a)
neg x = mk (minus x) (plus x) (most x) (fine x) (neg-sure x)

-- literals, and a number of a known size
pub nat-sure : (k : ℕ) → Sure (pos k) k 0 k
nat-sure k = record { ok = nat-ok k; small = le_refl k }

abbrev pub nat : (k : ℕ) → Exp (pos k)
nat k = mk k 0 k true (λ t. nat-sure k)

pub nsc-sure : (k : ℕ) → Sure (negsuc k) 0 (suc k) (suc k)
nsc-sure k = record { ok = refl; small = le_refl (suc k) }

abbrev pub nsc : (k : ℕ) → Exp (negsuc k)
nsc k = mk 0 (suc k) (suc k) true (λ t. nsc-sure k)

pub atom-sure : {z : ℤ} {m : ℕ} → nat_abs z ≤ m → Sure z (up z) (down z) m
atom-sure h = record { ok = refl; small = h }

abbrev pub known : {z : ℤ} {m : ℕ} → Within m z → Exp z
known {z} {m} h = mk (up z) (down z) m true (λ t. atom-sure h.within)

-- a number of any size, for an equation or an order: `let x = free c in ..` lets the search take c
abbrev pub free : (z : ℤ) → Exp z
free z = mk (up z) (down z) (nat_abs z) true (λ t. atom-sure (le_refl (nat_abs z)))

-- division, of which the size alone is known
pub quot-sure : {p : ℤ} (a : ℤ) (x : Exp p) → T (fine x) → Sure (quot_z p a) (up (quot_z p a)) (down (quot_z p a)) (most x)
quot-sure {p} a x t = atom-sure (quot-within {p = p} a (record { within = (sure x t).small })).within

abbrev pub quot : {p : ℤ} (a : ℤ) → Exp p → Exp (quot_z p a)
quot {p} a x = mk (up (quot_z p a)) (down (quot_z p a)) (most x) (fine x) (quot-sure a x)

pub rem-sure : {p : ℤ} (a : ℤ) (x : Exp p) → T (fine x) → Sure (rem_z p a) (up (rem_z p a)) (down (rem_z p a)) (most x)
rem-sure {p} a x t = atom-sure (rem-within {p = p} a (record { within = (sure x t).small })).within

abbrev pub rem : {p : ℤ} (a : ℤ) → Exp p → Exp (rem_z p a)
rem {p} a x = mk (up (rem_z p a)) (down (rem_z p a)) (most x) (fine x) (rem-sure a x)

pub floor-sure : {z : ℤ} (d : ℕ) (x : Exp z) → T (fine x) → Sure (floor_div z d) (up (floor_div z d)) (down (floor_div z d)) (most x)
floor-sure {z} d x t = atom-sure (omega (arith, floor-size z d, (sure x t).small))

abbrev pub floor : {z : ℤ} (d : ℕ) → Exp z → Exp (floor_div z d)
floor {z} d x = mk (up (floor_div z d)) (down (floor_div z d)) (most x) (fine x) (floor-sure d x)

pub ceil-sure : {z : ℤ} (d : ℕ) (x : Exp z) → T (fine x) → Sure (ceil_div z d) (up (ceil_div z d)) (down (ceil_div z d)) (most x)
ceil-sure {z} d x t = atom-sure (omega (arith, ceil-size z d, (sure x t).small))

abbrev pub ceil : {z : ℤ} (d : ℕ) → Exp z → Exp (ceil_div z d)
ceil {z} d x = mk (up (ceil_div z d)) (down (ceil_div z d)) (most x) (fine x) (ceil-sure d x)

pub exact-sure : {z : ℤ} (d : ℕ) (x : Exp z) → T (fine x) → Sure (exact_div d z) (up (exact_div d z)) (down (exact_div d z)) (most x)
exact-sure {z} d x t = atom-sure (omega (arith, exact-size d z, (sure x t).small))

abbrev pub exact : {z : ℤ} (d : ℕ) → Exp z → Exp (exact_div d z)
exact {z} d x = mk (up (exact_div d z)) (down (exact_div d z)) (most x) (fine x) (exact-sure d x)

-- a number that is written as bits and read again
pub back-sure : {z : ℤ} (x : Exp z) → T (fine x && ltb (most x) (2 ^ 63)) → Sure (to_z w64 (of_z w64 z)) (plus x) (minus x) (most x)
back-sure {z} x t =
    subst (λ (y : ℤ). Sure y (plus x) (minus x) (most x)) (sym (to_z-of_z (fits! x t))) (sure x (and_left (fine x) (ltb (most x) (2 ^ 63)) t))

abbrev pub back : {z : ℤ} → Exp z → Exp (to_z w64 (of_z w64 z))
back x = mk (plus x) (minus x) (most x) (fine x && ltb (most x) (2 ^ 63)) (back-sure x)

pub ruleset exps = (add, mul, neg, nat, nsc, quot, rem, floor, ceil, exact, back, known)
