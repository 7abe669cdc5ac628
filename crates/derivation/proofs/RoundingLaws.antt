-- 'Rounding' as the code does it: the divisor from the last coefficient to the first, then each number divided.
use Prim.Native.Nat.{ℕ, zero, suc, ◌+◌, ◌-◌, ◌/◌, ◌≤◌, ◌<◌}
use native.Mathlib.Omega.{arith}
use native.Mathlib.Nat.{div-one, zero-div, le_of_dvd, pos_of_dvd_of_pos, le-div_iff_mul-le}
use mathlib.Core.List.{List, [], ◌∷◌, map}
use mathlib.Core.Bool.{Bool, true, false}
use mathlib.Core.Logic.{inl, inr, ⊎_elim}
use mathlib.Core.Path.{◌≡◌, refl, sym, ap, ap₂, ◌∙◌}
use lib.ListN.{get_or-map}
use lib.Dec.{lit<}
use lib.IntN.{ℤ, pos, negsuc, neg_ℤ, nat_abs, neg_ℤ-neg_ℤ}
use Rattle.integer.specs.Divisor.{gcd-right, gcd-small, Above}
use Rattle.model_problems.specs.Lists.{tab}
use Rattle.model_problems.specs.Division.{floor_div, ceil_div, exact_div, gcd}
use Rattle.model_problems.specs.Ranges.{max_coefficient}
use Rattle.model_problems.specs.Constraint.{Constraint, modulus, coefficient_at, common_divisor, rounded_by, rounded_as, rounded, in_range}
use Rattle.integer.specs.Size.{abs_neg}
use Rattle.lists.proofs.Tab.{tab-end, tab-down, tab-map}
use Rattle.layout.specs.Rows.{number_in, cell, constraint_at}
use Rattle.layout.proofs.Rows.{constraint-eq, coefficient-at}
use Rattle.layout.proofs.Filled.{Filled, filled}
use Rattle.derivation.specs.Excess.{Excess, RoundedOrOut}
use Rattle.derivation.proofs.Sizes.{range-sized}

-- ---- the divisor of the coefficients from i on
pub divisor-none : (f : ℕ → ℤ) (n : ℕ) → 0 ≡ common_divisor (tab f n (n - n))
unfolding common_divisor
divisor-none f n = rw (tab-end f n n (omega arith))

pub divisor-down : (f : ℕ → ℤ) (n i a g : ℕ) → 0 < i → i ≤ n → a ≡ nat_abs (f (i - 1)) → g ≡ common_divisor (tab f i (n - i)) →
    gcd a g ≡ common_divisor (tab f (i - 1) (n - (i - 1)))
unfolding common_divisor
divisor-down f n i a g p h e k = rw (tab-down f n i p h, e, k)

-- the same for what may be given as 1
pub above_down : (f : ℕ → ℤ) (n i a g least r : ℕ) → 0 < i → i ≤ n → a ≡ nat_abs (f (i - 1)) → (g ≡ 1 → ⊥) → Above least (common_divisor (tab f i (n - i))) g →
    Above least (gcd a g) r → Above least (common_divisor (tab f (i - 1) (n - (i - 1)))) r
above_down f n i a g least r p h e o d t = ⊎_elim (λ k. rw (divisor-down f n i a g p h e k) at t) (λ k. absurd (o k.0)) d

gcd-one : (a : ℕ) → gcd a 1 ≡ 1
gcd-one a = omega (arith, le_of_dvd (lit< tt) (gcd-right a 1), pos_of_dvd_of_pos (gcd-right a 1) (lit< tt))

-- once it is 1, it stays 1; once it is at most `least`, it stays so
pub above-one : (f : ℕ → ℤ) (n i g least : ℕ) → i ≤ n → Above least (common_divisor (tab f i (n - i))) g → g ≡ 1 → Above least (common_divisor (tab f 0 n)) 1
above-one f n zero g least h d o = let z : n - 0 ≡ n = omega arith in rw (z, o) at d
above-one f n (suc i) g least h d o =
    let z : suc i - 1 ≡ i = omega arith in
    let e : gcd (nat_abs (f i)) (common_divisor (tab f (suc i) (n - suc i))) ≡ common_divisor (tab f i (n - i)) =
    rw z at (divisor-down f n (suc i) (nat_abs (f (suc i - 1))) _ (omega arith) h refl refl) in
    above-one f n i 1 least (omega arith)
    (⊎_elim
    (λ k. inl (sym (gcd-one (nat_abs (f i))) ∙ ap (gcd (nat_abs (f i))) (sym o ∙ k) ∙ e))
    (λ k. inr (refl, rw (← e) (gcd-small (nat_abs (f i)) _ least k.1.0 k.1.1)))
    d)
    refl

-- ---- the row whose numbers are divided
pub divided-row : (n h : ℕ) (c r : List ℤ) → 0 < h → Filled (ceil_div (number_in c 0) h) (λ k. exact_div h (cell c 0 k)) n r →
    constraint_at n r 0 ≡ rounded_by h (constraint_at n c 0)
unfolding rounded_by constraint_at
divided-row n zero c r p l = absurd (omega arith)
divided-row n (suc h) c r p l = filled n r l ∙ constraint-eq refl (sym (tab-map (exact_div (suc h)) (cell c 0) 0 n))

-- ---- rounding an inequality, from the divisor of its coefficients
as-inequality : (k : Constraint) → k.divisor ≡ pos 0 → rounded_by (common_divisor k.coefficients) k ≡ rounded k
unfolding rounded rounded_as modulus
as-inequality k q = ap (λ (z : ℤ). rounded_as (nat_abs z) k) (sym q)

rounded-none : (k : Constraint) → k.divisor ≡ pos 0 → common_divisor k.coefficients ≡ 0 → k ≡ rounded k
unfolding rounded_by
rounded-none k q e = ap (λ (h : ℕ). rounded_by h k) (sym e) ∙ as-inequality k q

floor-one : (z : ℤ) → floor_div z 1 ≡ z
unfolding floor_div
floor-one (pos a) = ap pos (div-one a)
floor-one (negsuc a) = ap negsuc (div-one a)

ceil-one : (z : ℤ) → ceil_div z 1 ≡ z
unfolding ceil_div
ceil-one z = ap neg_ℤ (floor-one (neg_ℤ z)) ∙ neg_ℤ-neg_ℤ z

exact_one : (z : ℤ) → exact_div 1 z ≡ z
unfolding exact_div
exact_one (pos a) = ap pos (div-one a)
exact_one (negsuc a) = ap (λ (k : ℕ). neg_ℤ (pos k)) (div-one (suc a))

exact-ones : (cs : List ℤ) → map (exact_div 1) cs ≡ cs
exact-ones [] = refl
exact-ones (c ∷ cs) = ap₂ (λ (z : ℤ) (zs : List ℤ). z ∷ zs) (exact_one c) (exact-ones cs)

by_one : (k : Constraint) → k ≡ rounded_by 1 k
unfolding rounded_by
by_one k = constraint-eq (sym (ceil-one k.constant)) (sym (exact-ones k.coefficients))

pub rounded-by : (k : Constraint) (h : ℕ) → k.divisor ≡ pos 0 → h ≡ common_divisor k.coefficients → rounded_by h k ≡ rounded k
rounded-by k h q e = ap (λ (d : ℕ). rounded_by d k) e ∙ as-inequality k q

rounded-one : (k : Constraint) → k.divisor ≡ pos 0 → common_divisor k.coefficients ≡ 1 → k ≡ rounded k
rounded-one k q e = by_one k ∙ rounded-by k 1 q (sym e)

pub rounded-same : (k : Constraint) (h : ℕ) → k.divisor ≡ pos 0 → h ≡ common_divisor k.coefficients → h ≤ 1 → k ≡ rounded k
rounded-same k zero q e l = rounded-none k q (sym e)
rounded-same k (suc h) q e l = let o : suc h ≡ 1 = omega arith in rounded-one k q (sym e ∙ o)

-- ---- and from what may be given as 1: neither k nor what it is rounded to is in range where the excess reaches the divisor
module _ (k : Constraint) (least h : ℕ) (q : k.divisor ≡ pos 0) (x : Excess k least) (d : Above least (common_divisor k.coefficients) h) where
  pub left : h ≤ 1 → RoundedOrOut k k
  left l =
      ⊎_elim
      (λ e. inl (rounded-same k h q e l))
      (λ s. inr (ap in_range (by_one k) ∙ x 1 (lit< tt) (omega arith), ap in_range (sym (as-inequality k q)) ∙ x (common_divisor k.coefficients) s.1.0 s.1.1))
      d

  pub above-is : 1 < h → h ≡ common_divisor k.coefficients
  above-is l = ⊎_elim (λ e. e) (λ s. absurd (omega arith)) d

-- ---- a coefficient of that size shows the excess
exact-abs : (h : ℕ) (z : ℤ) → nat_abs (exact_div h z) ≡ nat_abs z / h
unfolding exact_div
exact-abs h (pos a) = refl
exact-abs h (negsuc a) = abs_neg (pos (suc a / h))

by-coefficient : (h : ℕ) (k : Constraint) (i : ℕ) → 0 < h → nat_abs (coefficient_at (rounded_by h k) i) ≡ nat_abs (coefficient_at k i) / h
unfolding rounded_by coefficient_at exact_div
by-coefficient zero k i p = absurd (omega arith)
by-coefficient (suc h) k i p = ap nat_abs (rw (zero-div (suc h)) at (get_or-map (exact_div (suc h)) k.coefficients i (pos 0))) ∙ exact-abs (suc h) (coefficient_at k i)

pub excess-at : (n : ℕ) (c : List ℤ) (i size : ℕ) → i < n → size ≡ nat_abs (cell c 0 i) → Excess (constraint_at n c 0) (size / (max_coefficient + 1))
excess-at n c i size l e h p m =
    not_in _ (λ t.
    let b = ((range-sized (rounded_by h (constraint_at n c 0)) t).coefficient i).within in
    let q = (rw (by-coefficient h (constraint_at n c 0) i p, coefficient-at n c 0 i l, ← e) at b) in
    let s = (le-div_iff_mul-le {k = h} {x = max_coefficient + 1} {y = size} p).1 (omega (arith, (le-div_iff_mul-le {k = max_coefficient + 1} {x = h} {y = size} (lit< tt)).0 m)) in
    omega arith)
  where
    not_in : (b : Bool) → (b ≡ true → ⊥) → b ≡ false
    not_in true f = absurd (f refl)
    not_in false f = refl

pub excess-none : (k : Constraint) → Excess k 0
excess-none k h p m = absurd (omega arith)
