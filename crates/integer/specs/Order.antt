-- The order's laws, at the kit's records `◌≤ℤ◌` and `◌<ℤ◌`, whose two numbers are found from a fact in hand: `≤_trans h k`.
-- (`lib.Signed` has `≤ℤ_refl`, `<ℤ-≤ℤ_trans`, `<ℤ_irrefl` and `clash_ℤ`.)
use Rattle.std.specs.Prelude.{◌≡◌, ◌⊎◌, Bool, true, false, not, T, ℤ, pos, negsuc, neg_ℤ, ◌+ℤ◌, ◌*ℤ◌, ◌≤ℤ◌, ◌<ℤ◌}
use Rattle.std.proofs.Common.{inl, inr, ⊎_elim, arith, mul-le-mul_right}
use Rattle.std.specs.Int.Signed.{lt_z, lt_z_no, lt_z_yes, clash_ℤ}
use Rattle.integer.specs.Expression.{rep, var, nat, mul, le, eq, of_le, of_lt}

-- ---- an order
pub ≤_trans : {a b c : ℤ} → a ≤ℤ b → b ≤ℤ c → a ≤ℤ c
≤_trans {a} {b} {c} h k = le (var a) (var c) (omega (arith, of_le (var a) (var b) h, of_le (var b) (var c) k))

pub <-≤ : {a b : ℤ} → a <ℤ b → a ≤ℤ b
<-≤ {a} {b} h = le (var a) (var b) (omega (arith, of_lt (var a) (var b) h))

pub ≤-antisym : {a b : ℤ} → a ≤ℤ b → b ≤ℤ a → a ≡ b
≤-antisym {a} {b} h k = eq (var a) (var b) (omega (arith, of_le (var a) (var b) h, of_le (var b) (var a) k))

-- either order: `⊎_elim (λ l. ..) (λ l. ..) (≤-or-< a b)`
pub ≤-or-< : (a b : ℤ) → (a ≤ℤ b) ⊎ (b <ℤ a)
≤-or-< a b = decide (lt_z b a) (λ t. lt_z_yes t) (λ t. lt_z_no t)
  where
    decide : (t : Bool) → (T t → b <ℤ a) → (T (not t) → a ≤ℤ b) → (a ≤ℤ b) ⊎ (b <ℤ a)
    decide true f g = inr (f tt)
    decide false f g = inl (g tt)

-- ---- sums, and multiples: `≤-mul c p h` for `p : pos 0 ≤ℤ c`
pub ≤-add : {a b c d : ℤ} → a ≤ℤ b → c ≤ℤ d → (a +ℤ c) ≤ℤ (b +ℤ d)
≤-add {a} {b} {c} {d} h k =
    let x = var a in let y = var b in let z = var c in let w = var d in
    le (search rep) (search rep) (omega (arith, of_le x y h, of_le z w k))

pub ≤-mul : {a b : ℤ} (c : ℤ) → pos 0 ≤ℤ c → a ≤ℤ b → (a *ℤ c) ≤ℤ (b *ℤ c)
≤-mul {a} {b} (pos k) n h = le (mul (var a) (nat k)) (mul (var b) (nat k)) (omega (arith, mul-le-mul_right k (of_le (var a) (var b) h)))
≤-mul (negsuc k) n h = absurd n.le

pub ≤-mul-neg : {a b : ℤ} (c : ℤ) → c ≤ℤ pos 0 → a ≤ℤ b → (b *ℤ c) ≤ℤ (a *ℤ c)
≤-mul-neg {a} {b} c n h =
    let x = var a in let y = var b in let z = var c in
    let nn : pos 0 ≤ℤ neg_ℤ c = le (search rep) (search rep) (omega (arith, of_le z (nat 0) n)) in
    le (search rep) (search rep) (omega (arith, of_le (search rep) (search rep) (≤-mul (neg_ℤ c) nn h)))

pub <-cancel : (a b c : ℤ) → pos 0 <ℤ c → (a *ℤ c) <ℤ (b *ℤ c) → a <ℤ b
<-cancel a b c p h = ⊎_elim (λ l. clash_ℤ h (≤-mul c (<-≤ p) l)) (λ l. l) (≤-or-< b a)
