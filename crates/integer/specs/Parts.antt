-- An integer z is `up z − down z`, so an order or an equation between integers is one between naturals, which `omega` proves from a fact
-- for each operation in it. With `h : T (le_z a b)` in scope, a proof of `T (le_z (a -ℤ c) (b -ℤ c))` is
--     le_out (a -ℤ c) (b -ℤ c) (omega (arith, le_in a b h, sub_parts a c, sub_parts b c))
use Rattle.std.specs.Prelude.{◌≡◌, refl, Bool, true, false, not, cond, ℕ, zero, suc, ◌+◌, ◌-◌, ◌*◌, ◌≤◌, ◌<◌, max, T, ltb, ℤ, pos, negsuc, neg_ℤ, nat_abs, ◌+ℤ◌, ◌-ℤ◌, ◌*ℤ◌}
use Rattle.std.proofs.Common.{ap, arith, ltb→lt, nltb→le, leb→le, le→leb, lt→ltb}
use Rattle.std.proofs.Math.Dec.{nleb→lt, not_T}
use Rattle.std.proofs.Math.IntN.{suc_ℤ, sub_ℕ}
use Rattle.std.specs.Int.Signed.{lt_z, le_z}

-- the part above zero, and the part below
abbrev pub up : ℤ → ℕ
up (pos n) = n
up (negsuc n) = 0

abbrev pub down : ℤ → ℕ
down (pos n) = 0
down (negsuc n) = suc n

-- the relations, at the parts: `h : a ⊑ b` in scope is a fact that `omega` reads
infix 5 ◌⊑◌ ◌⊏◌ ◌≈◌
abbrev pub ◌⊑◌ : ℤ → ℤ → Type 0
a ⊑ b = up a + down b ≤ up b + down a

abbrev pub ◌⊏◌ : ℤ → ℤ → Type 0
a ⊏ b = up a + down b < up b + down a

abbrev pub ◌≈◌ : ℤ → ℤ → Type 0
a ≈ b = up a + down b ≡ up b + down a

-- ---- each operation: `omega (arith, add_parts a b)` knows what a +ℤ b is
subℕ-parts : (a b : ℕ) → up (sub_ℕ a b) + b ≡ down (sub_ℕ a b) + a
subℕ-parts a b = go (ltb a b) (λ t. ltb→lt a b t) (λ t. nltb→le a b t)
  where
    go : (c : Bool) → (T c → a < b) → (T (not c) → b ≤ a) →
        up (cond c (negsuc (b - suc a)) (pos (a - b))) + b ≡ down (cond c (negsuc (b - suc a)) (pos (a - b))) + a
    go true f g = let h = f tt in omega arith
    go false f g = let h = g tt in omega arith

pub add_parts : (a b : ℤ) → up (a +ℤ b) + (down a + down b) ≡ down (a +ℤ b) + (up a + up b)
add_parts (pos a) (pos b) = omega arith
add_parts (pos a) (negsuc b) = omega (arith, subℕ-parts a (suc b))
add_parts (negsuc a) (pos b) = omega (arith, subℕ-parts b (suc a))
add_parts (negsuc a) (negsuc b) = omega arith

pub neg-up : (z : ℤ) → up (neg_ℤ z) ≡ down z
neg-up (pos zero) = refl
neg-up (pos (suc n)) = refl
neg-up (negsuc n) = refl

pub neg-down : (z : ℤ) → down (neg_ℤ z) ≡ up z
neg-down (pos zero) = refl
neg-down (pos (suc n)) = refl
neg-down (negsuc n) = refl

pub sub_parts : (a b : ℤ) → up (a -ℤ b) + (down a + up b) ≡ down (a -ℤ b) + (up a + down b)
sub_parts a b = omega (arith, add_parts a (neg_ℤ b), neg-up b, neg-down b)

pub suc-parts : (z : ℤ) → up (suc_ℤ z) + down z ≡ down (suc_ℤ z) + suc (up z)
suc-parts (pos n) = omega arith
suc-parts (negsuc zero) = refl
suc-parts (negsuc (suc n)) = omega arith

-- the products of the parts are `omega`'s unknowns; multiply a fact by a number first, `mul-le-mul_left (up c) h`, where it is needed
pub mul-parts : (a b : ℤ) → up (a *ℤ b) + (up a * down b + down a * up b) ≡ down (a *ℤ b) + (up a * up b + down a * down b)
mul-parts (pos a) (pos b) = omega arith
mul-parts (pos a) (negsuc b) = omega (arith, neg-up (pos (a * suc b)), neg-down (pos (a * suc b)))
mul-parts (negsuc a) (pos b) = omega (arith, neg-up (pos (suc a * b)), neg-down (pos (suc a * b)))
mul-parts (negsuc a) (negsuc b) = omega arith

-- the distance from zero; `one-part z` says that one of the two parts is zero
pub abs-parts : (z : ℤ) → nat_abs z ≡ up z + down z
abs-parts (pos n) = omega arith
abs-parts (negsuc n) = omega arith

pub one-part : (z : ℤ) → up z + down z ≤ max (up z) (down z)
one-part (pos n) = omega arith
one-part (negsuc n) = omega arith

pub abs-of : (z : ℤ) → down z ≤ up z → nat_abs z + down z ≡ up z
abs-of z h = omega (arith, abs-parts z, one-part z)

-- ---- a test's answer as a fact at the parts (-in), and back (-out)
pub le_in : (a b : ℤ) → T (le_z a b) → a ⊑ b
le_in (pos a) (pos b) t = omega (arith, leb→le a b t)
le_in (pos a) (negsuc b) t = absurd t
le_in (negsuc a) (pos b) t = omega arith
le_in (negsuc a) (negsuc b) t = omega (arith, leb→le b a t)

pub le_out : (a b : ℤ) → a ⊑ b → T (le_z a b)
le_out (pos a) (pos b) h = le→leb a b (omega arith)
le_out (pos a) (negsuc b) h = let z : ⊥ = omega arith in absurd z
le_out (negsuc a) (pos b) h = tt
le_out (negsuc a) (negsuc b) h = le→leb b a (omega arith)

pub lt_in : (a b : ℤ) → T (lt_z a b) → a ⊏ b
lt_in (pos a) (pos b) t = omega (arith, ltb→lt a b t)
lt_in (pos a) (negsuc b) t = absurd t
lt_in (negsuc a) (pos b) t = omega arith
lt_in (negsuc a) (negsuc b) t = omega (arith, ltb→lt b a t)

pub lt_out : (a b : ℤ) → a ⊏ b → T (lt_z a b)
lt_out (pos a) (pos b) h = lt→ltb a b (omega arith)
lt_out (pos a) (negsuc b) h = let z : ⊥ = omega arith in absurd z
lt_out (negsuc a) (pos b) h = tt
lt_out (negsuc a) (negsuc b) h = lt→ltb b a (omega arith)

pub nlt-in : (a b : ℤ) → T (not (lt_z a b)) → b ⊑ a
nlt-in (pos a) (pos b) t = omega (arith, nltb→le a b t)
nlt-in (pos a) (negsuc b) t = omega arith
nlt-in (negsuc a) (pos b) t = absurd t
nlt-in (negsuc a) (negsuc b) t = omega (arith, nltb→le b a t)

pub nlt-out : (a b : ℤ) → b ⊑ a → T (not (lt_z a b))
nlt-out a b h = not_T (lt_z a b) (λ t. let l = lt_in a b t in omega arith)

pub nle-in : (a b : ℤ) → T (not (le_z a b)) → b ⊏ a
nle-in (pos a) (pos b) t = omega (arith, nleb→lt a b t)
nle-in (pos a) (negsuc b) t = omega arith
nle-in (negsuc a) (pos b) t = absurd t
nle-in (negsuc a) (negsuc b) t = omega (arith, nleb→lt b a t)

pub nle-out : (a b : ℤ) → b ⊏ a → T (not (le_z a b))
nle-out a b h = not_T (le_z a b) (λ t. let l = le_in a b t in omega arith)

pub eq-in : (a b : ℤ) → a ≡ b → a ≈ b
eq-in a b e = omega (arith, ap up e, ap down e)

-- two integers are equal where their parts differ by the same: `eq-out _ _ (omega (arith, add_parts a b, ..))`
pub eq-out : (a b : ℤ) → a ≈ b → a ≡ b
eq-out (pos a) (pos b) h = let e : a ≡ b = omega arith in ap pos e
eq-out (pos a) (negsuc b) h = let z : ⊥ = omega arith in absurd z
eq-out (negsuc a) (pos b) h = let z : ⊥ = omega arith in absurd z
eq-out (negsuc a) (negsuc b) h = let e : a ≡ b = omega arith in ap negsuc e
