-- An integer's expression: two naturals whose difference it is. `search rep` finds the expression of a sum, a difference or a product whose
-- variables are bound by `var`, and a fact of integers is then one of naturals. For `(a +ℤ b) *ℤ (a -ℤ b) ≡ a *ℤ a -ℤ b *ℤ b`:
--     let x = var a in let y = var b in eq (search rep) (search rep) (omega arith)
use Rattle.std.specs.Prelude.{◌≡◌, refl, ℕ, suc, ◌+◌, ◌*◌, ◌≤◌, ◌<◌, ℤ, pos, negsuc, neg_ℤ, ◌+ℤ◌, ◌*ℤ◌, ◌≤ℤ◌, ◌<ℤ◌}
use Rattle.std.proofs.Common.{ap, arith}
use Rattle.integer.specs.Parts.{up, down, add_parts, mul-parts, neg-up, neg-down, le_in, le_out, lt_in, lt_out, eq-in, eq-out}

-- z is p − n, and so for a sum, a product, ..
pub record Rep (z : ℤ) : Type 0 where
  pub p : ℕ
  pub n : ℕ
  pub ok : up z + n ≡ p + down z

pub add_ok : (a b : ℤ) (p n q m : ℕ) → up a + n ≡ p + down a → up b + m ≡ q + down b →
    up (a +ℤ b) + (n + m) ≡ (p + q) + down (a +ℤ b)
add_ok a b p n q m e f = omega (arith, add_parts a b)

pub mul_ok : (a b : ℤ) (p n q m : ℕ) → up a + n ≡ p + down a → up b + m ≡ q + down b →
    up (a *ℤ b) + (p * m + n * q) ≡ (p * q + n * m) + down (a *ℤ b)
mul_ok a b p n q m e f =
    omega (arith, mul-parts a b, ap (λ (x : ℕ). x * q) e, ap (λ (x : ℕ). x * m) e, ap (λ (x : ℕ). up a * x) f, ap (λ (x : ℕ). down a * x) f)

pub neg-ok : (a : ℤ) (p n : ℕ) → up a + n ≡ p + down a → up (neg_ℤ a) + p ≡ n + down (neg_ℤ a)
neg-ok a p n e = omega (arith, neg-up a, neg-down a)

pub nat-ok : (k : ℕ) → up (pos k) + 0 ≡ k + down (pos k)
nat-ok k = omega arith

abbrev pub add : {a b : ℤ} → Rep a → Rep b → Rep (a +ℤ b)
add {a} {b} x y = record { p = x.p + y.p; n = x.n + y.n; ok = add_ok a b x.p x.n y.p y.n x.ok y.ok }

abbrev pub mul : {a b : ℤ} → Rep a → Rep b → Rep (a *ℤ b)
mul {a} {b} x y =
    record {
      p = x.p * y.p + x.n * y.n;
      n = x.p * y.n + x.n * y.p;
      ok = mul_ok a b x.p x.n y.p y.n x.ok y.ok;
    }

abbrev pub neg : {a : ℤ} → Rep a → Rep (neg_ℤ a)
neg {a} x = record { p = x.n; n = x.p; ok = neg-ok a x.p x.n x.ok }

-- a natural, a number below zero, and a variable
abbrev pub nat : (k : ℕ) → Rep (pos k)
nat k = record { p = k; n = 0; ok = nat-ok k }

abbrev pub nsc : (k : ℕ) → Rep (negsuc k)
nsc k = record { p = 0; n = suc k; ok = refl }

abbrev pub var : (z : ℤ) → Rep z
var z = record { p = up z; n = down z; ok = refl }

pub ruleset rep = (add, mul, neg, nat, nsc)

-- a fact of integers from the fact of naturals, and back (of-): `omega (arith, of_le (var a) (var b) h)` reads an `h : a ≤ℤ b`
module _ {a b : ℤ} (x : Rep a) (y : Rep b) where
  pub le : x.p + y.n ≤ y.p + x.n → a ≤ℤ b
  le h = record { le = le_out a b (omega (arith, x.ok, y.ok)) }

  pub lt : x.p + y.n < y.p + x.n → a <ℤ b
  lt h = record { lt = lt_out a b (omega (arith, x.ok, y.ok)) }

  pub eq : x.p + y.n ≡ y.p + x.n → a ≡ b
  eq h = eq-out a b (omega (arith, x.ok, y.ok))

  pub of_le : a ≤ℤ b → x.p + y.n ≤ y.p + x.n
  of_le h = omega (arith, x.ok, y.ok, le_in a b h.le)

  pub of_lt : a <ℤ b → x.p + y.n < y.p + x.n
  of_lt h = omega (arith, x.ok, y.ok, lt_in a b h.lt)

  pub of_eq : a ≡ b → x.p + y.n ≡ y.p + x.n
  of_eq h = omega (arith, x.ok, y.ok, eq-in a b h)
