-- Divisor constraints in a box: one that is falsified stays so in a smaller box, and at a single point the test is exact.
use Prim.Native.Nat.{ℕ, zero, suc, ◌∣◌}
use native.Mathlib.Nat.{dvd_refl, dvd_trans, dvd-mul_right_of_dvd}
use native.Mathlib.Omega.{arith}
use mathlib.Core.Bool.{Bool, true, false, not, cond}
use mathlib.Core.List.{List, [], ◌∷◌}
use mathlib.Core.Path.{◌≡◌, refl, ap}
use lib.Dec.{T}
use lib.IntN.{ℤ, pos, nat_abs, ◌+ℤ◌, ◌*ℤ◌, +ℤ_idl, zero-*ℤ}
use lib.ListN.{get_or, set}
use Rattle.model_problems.specs.Division.{gcd, divides}
use Rattle.model_problems.specs.Constraint.{Constraint, Bounds, Box, is_open, open_divisor, fixed_terms, fixed_value, falsified_by}
use Rattle.model_walk.specs.Step.{lowers}
use Rattle.model_problems.specs.Points.{dot, value}
use Rattle.integer.specs.Parts.{◌⊑◌, lt_in, lt_out, nlt-in, nlt-out, eq-out}
use Rattle.integer.specs.Size.{abs-mul}
use Rattle.integer.specs.Tests.{is_false, not_in, not-out}
use Rattle.integer.specs.Divisor.{gcd-left, gcd-right, gcd-greatest, gcd-none}
use Rattle.integer.specs.Congruence.{divides-in, divides-out, Congruent, congruent-refl, congruent-sym, congruent-add, congruent-more, congruent-less, congruent-divides}
use Rattle.validity.proofs.Boxes.{Ordered, Nested, Fixed}

-- ---- a box inside another: its divisor is a multiple of the other's, and modulo the other's its rest has the same value
record Coarser (g h : ℕ) (s t : ℤ) : Type 0 where
  multiple : g ∣ h
  same : Congruent g s t

-- one variable more, with coefficient a and bounds b inside o; g, h, s and t are the two boxes' divisors and rests without it
coarser-step : (a : ℤ) (b o : Bounds) (g h : ℕ) (s t : ℤ) (inner outer : Bool) → (T inner → T outer) → (T (not outer) → b.lower ≡ o.lower) → Coarser g h s t →
    Coarser (cond outer (gcd (nat_abs a) g) g) (cond inner (gcd (nat_abs a) h) h) (cond inner s (a *ℤ b.lower +ℤ s)) (cond outer t (a *ℤ o.lower +ℤ t))
coarser-step a b o g h s t true true f e c =
    let d = gcd (nat_abs a) g in
    record {
      multiple = gcd-greatest (nat_abs a) h d (gcd-left (nat_abs a) g) (dvd_trans d (gcd-right (nat_abs a) g) c.multiple);
      same = congruent-less d g s t (gcd-right (nat_abs a) g) c.same;
    }
coarser-step a b o g h s t false true f e c =
    let d = gcd (nat_abs a) g in
    record {
      multiple = dvd_trans d (gcd-right (nat_abs a) g) c.multiple;
      same =
          congruent-more d (a *ℤ b.lower) s t (rw (abs-mul a b.lower) (dvd-mul_right_of_dvd d (gcd-left (nat_abs a) g) (nat_abs b.lower)))
          (congruent-less d g s t (gcd-right (nat_abs a) g) c.same);
    }
coarser-step a b o g h s t true false f e c = absurd (f tt)
coarser-step a b o g h s t false false f e c = record { multiple = c.multiple; same = rw (e tt) (congruent-add g (a *ℤ o.lower) s t c.same) }

coarser : (q : ℕ) (cs : List ℤ) (box outer : Box) → Ordered box → Nested box outer →
    Coarser (open_divisor q cs outer) (open_divisor q cs box) (fixed_terms cs box) (fixed_terms cs outer)
unfolding open_divisor fixed_terms is_open
coarser q [] box outer r n = record { multiple = dvd_refl q; same = congruent-refl q (pos 0) }
coarser q (a ∷ cs) [] [] r n = record { multiple = dvd_refl q; same = congruent-refl q (pos 0) }
coarser q (a ∷ cs) [] (o ∷ outer) r n = absurd n
coarser q (a ∷ cs) (b ∷ box) [] r n = absurd n
coarser q (a ∷ cs) (b ∷ box) (o ∷ outer) r n =
    coarser-step a b o (open_divisor q cs outer) (open_divisor q cs box) (fixed_terms cs box) (fixed_terms cs outer) (is_open b) (is_open o)
    (λ t. lt_out o.lower o.upper (omega (arith, lt_in b.lower b.upper t)))
    (λ t. eq-out b.lower o.lower (omega (arith, nlt-in o.lower o.upper t)))
    (coarser q cs box outer r.1 n.2)

pub divided-nested : (q : ℕ) (k : Constraint) (box outer : Box) → Ordered box → Nested box outer → T (falsified_by (suc q) k outer) → T (falsified_by (suc q) k box)
unfolding falsified_by fixed_value
divided-nested q k box outer r n f =
    let cs = k.coefficients in
    let c = coarser (suc q) cs box outer r n in
    let g = open_divisor (suc q) cs outer in
    let v = k.constant +ℤ fixed_terms cs outer in
    let w = k.constant +ℤ fixed_terms cs box in
    let same = congruent-sym g w v (congruent-add g k.constant (fixed_terms cs box) (fixed_terms cs outer) c.same) in
    not_in (divides (open_divisor (suc q) cs box) w)
    (λ t. not-out (divides g v) f (divides-out g v (congruent-divides g v w same (dvd_trans g c.multiple (divides-in (open_divisor (suc q) cs box) w t)))))

-- ---- at a single point
closed : (b : Bounds) → b.upper ⊑ b.lower → is_open b ≡ false
unfolding is_open
closed b h = is_false _ (nlt-out b.lower b.upper h)

fixed-divisor : (q : ℕ) (cs : List ℤ) (box : Box) → Fixed box → open_divisor q cs box ≡ q
unfolding open_divisor
fixed-divisor q [] box h = refl
fixed-divisor q (a ∷ cs) [] h = refl
fixed-divisor q (a ∷ cs) (b ∷ box) h = rw (closed b h.0) (fixed-divisor q cs box h.1)

fixed-terms : (cs : List ℤ) (box : Box) → Fixed box → fixed_terms cs box ≡ dot cs (lowers box)
unfolding fixed_terms dot lowers
fixed-terms [] box h = refl
fixed-terms (a ∷ cs) [] h = refl
fixed-terms (a ∷ cs) (b ∷ box) h = rw (closed b h.0) (ap (λ (z : ℤ). a *ℤ b.lower +ℤ z) (fixed-terms cs box h.1))

pub divided-fixed : (q : ℕ) (k : Constraint) (box : Box) → Fixed box → falsified_by (suc q) k box ≡ not (divides (suc q) (value k (lowers box)))
unfolding falsified_by fixed_value value
divided-fixed q k box h = rw (fixed-divisor (suc q) k.coefficients box h, fixed-terms k.coefficients box h)

-- ---- bounds c set at a variable whose coefficient is 0
divisor-unseen : (q : ℕ) (cs : List ℤ) (i : ℕ) (c : Bounds) (box : Box) → get_or cs i (pos 0) ≡ pos 0 → open_divisor q cs (set box i c) ≡ open_divisor q cs box
unfolding open_divisor
divisor-unseen q [] i c box e = refl
divisor-unseen q (a ∷ cs) i c [] e = refl
divisor-unseen q (a ∷ cs) zero c (b ∷ box) e = rw (e, either (is_open c) (open_divisor q cs box), either (is_open b) (open_divisor q cs box))
  where
    either : (t : Bool) (g : ℕ) → cond t (gcd 0 g) g ≡ g
    either true g = gcd-none g
    either false g = refl
divisor-unseen q (a ∷ cs) (suc i) c (b ∷ box) e = ap (λ (g : ℕ). cond (is_open b) (gcd (nat_abs a) g) g) (divisor-unseen q cs i c box e)

fixed-unseen : (cs : List ℤ) (i : ℕ) (c : Bounds) (box : Box) → get_or cs i (pos 0) ≡ pos 0 → fixed_terms cs (set box i c) ≡ fixed_terms cs box
unfolding fixed_terms
fixed-unseen [] i c box e = refl
fixed-unseen (a ∷ cs) i c [] e = refl
fixed-unseen (a ∷ cs) zero c (b ∷ box) e = rw (e, either (is_open c) c.lower (fixed_terms cs box), either (is_open b) b.lower (fixed_terms cs box))
  where
    either : (t : Bool) (l s : ℤ) → cond t s (pos 0 *ℤ l +ℤ s) ≡ s
    either true l s = refl
    either false l s = rw (zero-*ℤ l, +ℤ_idl s)
fixed-unseen (a ∷ cs) (suc i) c (b ∷ box) e = ap (λ (s : ℤ). cond (is_open b) s (a *ℤ b.lower +ℤ s)) (fixed-unseen cs i c box e)

pub divided-unseen : (q : ℕ) (k : Constraint) (i : ℕ) (c : Bounds) (box : Box) → get_or k.coefficients i (pos 0) ≡ pos 0 →
    falsified_by (suc q) k (set box i c) ≡ falsified_by (suc q) k box
unfolding falsified_by fixed_value
divided-unseen q k i c box e = rw (divisor-unseen (suc q) k.coefficients i c box e, fixed-unseen k.coefficients i c box e)
