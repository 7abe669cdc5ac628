-- Spans, and what a changed bound does to a constraint's activity and to its spans. For callers.
use Prim.Native.Nat.{ℕ, zero, suc, ◌+◌, ◌*◌, ◌<◌, ◌≤◌}
use native.Mathlib.Nat.{mul-le-mul_left}
use native.Mathlib.Omega.{arith}
use mathlib.Core.List.{List, [], ◌∷◌}
use mathlib.Core.Option.{none}
use mathlib.Core.Path.{◌≡◌, sym, ap, ◌∙◌}
use lib.Dec.{lit≤}
use lib.IntN.{ℤ, pos, negsuc, nat_abs, ◌+ℤ◌, ◌-ℤ◌, ◌*ℤ◌, +ℤ_assoc, +ℤ_comm}
use lib.ListN.{get_or, set, length}
use lib.Signed.{◌≤ℤ◌}
use Rattle.model_problems.specs.Lists.{tab}
use Rattle.model_problems.specs.Ranges.{max_coefficient}
use Rattle.model_problems.specs.Constraint.{Constraint, Bounds, Box, coefficient_at, lower_at, upper_at, set_lower, set_upper, term, terms, activity}
use Rattle.model_walk.specs.Move.{improvement_at}
use Rattle.integer.specs.Parts.{◌⊑◌, sub_parts, mul-parts, le_out}
use Rattle.integer.specs.Expression as E
use Rattle.integer.specs.Expression.{rep, var, nat}
use Rattle.integer.specs.Size.{Within, weaken, add-within, mul-within, neg-within}
use Rattle.layout.specs.Rows.{cell, constraint_at, bounds_at, box_of}
use Rattle.linear.specs.Ranges.{TermFits, RowFits, BoxFits, widest_term, widest_activity}
use Rattle.linear.specs.Reach.{span_of, widest_span}
use Rattle.linear.proofs.Implied.{unimproved}
use Rattle.linear.proofs.Ranges.{term_fits}

-- ---- where the slack is no less than the span, the variable's bounds are not improved
pub span_none : (w a : ℤ) (b : Bounds) (j i : ℕ) → span_of a b ≤ℤ (pos 0 -ℤ w) → improvement_at j i (w -ℤ term a b) a b ≡ none
span_none w a b j i h = sym (unimproved w b.lower b.upper a h j i)

-- ---- a span does not grow where the bounds close in
pub span-nested : (a : ℤ) (b o : Bounds) → o.lower ⊑ b.lower → b.upper ⊑ o.upper → span_of a b ≤ℤ span_of a o
unfolding span_of
span-nested a b o h k =
    let x = b.upper -ℤ b.lower in
    let y = o.upper -ℤ o.lower in
    let c = nat_abs a in
    let m : x ⊑ y = omega (arith, sub_parts b.upper b.lower, sub_parts o.upper o.lower) in
    record { le = le_out (pos c *ℤ x) (pos c *ℤ y) (omega (arith, mul-parts (pos c) x, mul-parts (pos c) y, mul-le-mul_left c m)) }

-- ---- how a constraint's activity changes with a bound
-- the change of two bounds
abbrev pub change : ℤ → ℤ → Bounds
change rise fall = record { lower = rise; upper = fall }

term-change : (a : ℤ) (b c : Bounds) → term a c ≡ term a b +ℤ term a (change (c.lower -ℤ b.lower) (c.upper -ℤ b.upper))
unfolding term
term-change (pos a) b c = let x = var b.lower in let y = var c.lower in E.eq (search rep) (search rep) (omega arith)
term-change (negsuc a) b c = let x = var b.upper in let y = var c.upper in E.eq (search rep) (search rep) (omega arith)

term-zero : (b : Bounds) → term (pos 0) b ≡ pos 0
unfolding term
term-zero b = let x = var b.lower in E.eq (search rep) (nat 0) (omega arith)

regroup : (x y z : ℤ) → (x +ℤ y) +ℤ z ≡ (x +ℤ z) +ℤ y
regroup x y z = +ℤ_assoc x y z ∙ ap (λ (u : ℤ). x +ℤ u) (+ℤ_comm y z) ∙ sym (+ℤ_assoc x z y)

terms-set : (cs : List ℤ) (box : Box) (i : ℕ) (c : Bounds) → i < length box →
    terms cs (set box i c) ≡ terms cs box +ℤ term (get_or cs i (pos 0)) (change (c.lower -ℤ lower_at box i) (c.upper -ℤ upper_at box i))
unfolding terms lower_at upper_at
terms-set [] box i c h = sym (ap (λ (z : ℤ). pos 0 +ℤ z) (term-zero _))
terms-set (a ∷ cs) [] i c h = absurd (omega arith)
terms-set (a ∷ cs) (b ∷ box) zero c h = ap (λ (z : ℤ). z +ℤ terms cs box) (term-change a b c) ∙ regroup (term a b) (term a (change (c.lower -ℤ b.lower) (c.upper -ℤ b.upper))) (terms cs box)
terms-set (a ∷ cs) (b ∷ box) (suc i) c h =
    ap (λ (z : ℤ). term a b +ℤ z) (terms-set cs box i c (omega arith)) ∙ sym (+ℤ_assoc (term a b) (terms cs box) _)

module _ (k : Constraint) (box : Box) (i : ℕ) (v : ℤ) (h : i < length box) where
  less-self : (z : ℤ) → z -ℤ z ≡ pos 0
  less-self z = let x = var z in E.eq (search rep) (nat 0) (omega arith)

  pub activity-raised : activity k (set_lower i v box) ≡ activity k box +ℤ term (coefficient_at k i) (change (v -ℤ lower_at box i) (pos 0))
  unfolding activity set_lower coefficient_at
  activity-raised =
      ap (λ (z : ℤ). k.constant +ℤ z) (terms-set k.coefficients box i (record { lower = v; upper = upper_at box i }) h) ∙
      sym (+ℤ_assoc k.constant (terms k.coefficients box) _) ∙
      ap (λ (z : ℤ). (k.constant +ℤ terms k.coefficients box) +ℤ term (get_or k.coefficients i (pos 0)) (change (v -ℤ lower_at box i) z)) (less-self (upper_at box i))

  pub activity-lowered : activity k (set_upper i v box) ≡ activity k box +ℤ term (coefficient_at k i) (change (pos 0) (v -ℤ upper_at box i))
  unfolding activity set_upper coefficient_at
  activity-lowered =
      ap (λ (z : ℤ). k.constant +ℤ z) (terms-set k.coefficients box i (record { lower = lower_at box i; upper = v }) h) ∙
      sym (+ℤ_assoc k.constant (terms k.coefficients box) _) ∙
      ap (λ (z : ℤ). (k.constant +ℤ terms k.coefficients box) +ℤ term (get_or k.coefficients i (pos 0)) (change z (v -ℤ upper_at box i))) (less-self (lower_at box i))

-- ---- the size of an activity
term-size : (a : ℤ) (b : Bounds) → TermFits a b.lower b.upper → Within widest_term (term a b)
unfolding term
term-size (pos a) b f = mul-within f.coefficient f.low
term-size (negsuc a) b f = mul-within f.coefficient f.high

terms-size : (f : ℕ → ℤ) (g : ℕ → Bounds) (i c : ℕ) → ((k : ℕ) → i ≤ k → k < i + c → TermFits (f k) (g k).lower (g k).upper) → Within (c * widest_term) (terms (tab f i c) (tab g i c))
unfolding terms tab
terms-size f g i zero h = record { within = omega arith }
terms-size f g i (suc c) h =
    weaken (omega arith) (add-within (term-size (f i) (g i) (h i (omega arith) (omega arith))) (terms-size f g (suc i) c (λ k l u. h k (omega arith) (omega arith))))

pub activity-size : (n : ℕ) (rows : List ℤ) (start : ℕ) (lower upper : List ℤ) → RowFits n rows start → BoxFits n lower upper →
    Within widest_activity (activity (constraint_at n rows start) (box_of n lower upper))
unfolding activity constraint_at box_of
activity-size n rows start lower upper r b =
    weaken (omega (arith, r.few))
    (add-within r.constant (terms-size (cell rows start) (bounds_at lower upper) 0 n (λ k l u. unfold bounds_at in term_fits r b k (omega arith))))

-- ---- the size of a span
pub span-size : (a : ℤ) (b : Bounds) → TermFits a b.lower b.upper → Within widest_span (span_of a b)
unfolding span_of
span-size a b f =
    let c : Within max_coefficient (pos (nat_abs a)) = record { within = f.coefficient.within } in
    weaken (lit≤ tt) (mul-within c (add-within f.high (neg-within f.low)))
