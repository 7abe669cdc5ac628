-- Constraints and the points that meet them: rounding keeps exactly these, a resolvent is met by what meets both, and what a box falsifies no point of it meets.
use Prim.Native.Nat.{ℕ, zero, suc, ◌/◌, ◌≤◌, ◌<◌, ◌∣◌}
use native.Mathlib.Nat.{zero-lt-suc, dvd_trans}
use native.Mathlib.Omega.{arith}
use mathlib.Core.Bool.{Bool, true, false, not}
use mathlib.Core.List.{List, [], ◌∷◌, map}
use mathlib.Core.Logic.{◌↔◌}
use mathlib.Core.Path.{◌≡◌, refl, sym, ap, ap₂, ◌∙◌}
use lib.Dec.{T, eqb→eq}
use lib.IntN.{ℤ, pos, negsuc, neg_ℤ, nat_abs, ◌+ℤ◌, ◌*ℤ◌, *ℤ-zero, zero-*ℤ}
use lib.ListN.{get_or, set, length, length-map}
use Rattle.model_problems.specs.Division.{ceil_div, exact_div, gcd, divides}
use Rattle.model_problems.specs.Lists.{all_of}
use Rattle.model_problems.specs.Ranges.{within, max_coefficient}
use Rattle.model_problems.specs.Constraint.{Constraint, Bounds, Box, modulus, is_inequality, coefficient_at, set_lower, set_upper, term, terms, activity, falsified_by, falsified, common_divisor, rounded_by, rounded_as, rounded, mixed, combination, resolvent, in_range}
use Rattle.model_walk.specs.Step.{lowers}
use Rattle.model_problems.specs.Points.{Point, Inside, dot, value, MeetsBy, Meets}
use Rattle.integer.specs.Parts.{◌⊑◌, add_parts, mul-parts, neg-up, neg-down, le_in, le_out, lt_in, lt_out, nlt-in}
use Rattle.integer.specs.Ring.{ring, ⊑-add, ⊑-scale, ⊑-flip}
use Rattle.integer.specs.Rounding.{ceil-min, ceil-only, ceil-size, exact-size}
use Rattle.integer.specs.Divisor.{gcd-left, gcd-right, exact}
use Rattle.integer.specs.Size.{between_in, between-out}
use Rattle.integer.specs.Tests.{is_true, of-true, and_in, and_left, and_right, not-out}
use Rattle.validity.proofs.Boxes.{Ordered, Nested, Fixed, alone, alone-ordered, alone-fixed, alone-lowers, alone-nested}
use Rattle.validity.proofs.Divisors.{divided-nested, divided-fixed, divided-unseen}

-- ---- an inequality carries no divisor
abbrev pub Inequality : Constraint → Type 0
Inequality k = modulus k ≡ 0

pub inequality-in : (k : Constraint) → T (is_inequality k) → Inequality k
unfolding is_inequality
inequality-in k t = eqb→eq (modulus k) 0 t

pub inequality-out : (k : Constraint) → Inequality k → T (is_inequality k)
unfolding is_inequality
inequality-out k e = rw e tt

pub inequality-divisor : (k : Constraint) → Inequality k → k.divisor ≡ pos 0
unfolding modulus
inequality-divisor k e = zero_of k.divisor e
  where
    zero_of : (z : ℤ) → nat_abs z ≡ 0 → z ≡ pos 0
    zero_of (pos n) e = ap pos e
    zero_of (negsuc n) e = let z : ⊥ = omega arith in absurd z

pub meets-in : (x : Point) (k : Constraint) → Inequality k → Meets x k → value k x ⊑ pos 0
meets-in x k e m = let h : MeetsBy 0 x k = rw e at m in le_in (value k x) (pos 0) h.le

pub meets-out : (x : Point) (k : Constraint) → Inequality k → value k x ⊑ pos 0 → Meets x k
meets-out x k e h = rw e (record { le = le_out (value k x) (pos 0) h })

-- ---- rounding
-- h divides each coefficient
abbrev Divides : ℕ → List ℤ → Type 0
Divides h [] = Unit {0}
Divides h (a ∷ cs) = (h ∣ nat_abs a) × Divides h cs

divides-less : (g h : ℕ) (cs : List ℤ) → g ∣ h → Divides h cs → Divides g cs
divides-less g h [] d e = tt
divides-less g h (a ∷ cs) d e = (dvd_trans g d e.0, divides-less g h cs d e.1)

divisor-divides : (cs : List ℤ) → Divides (common_divisor cs) cs
unfolding common_divisor
divisor-divides [] = tt
divisor-divides (a ∷ cs) =
    let n = common_divisor cs in
    (gcd-left (nat_abs a) n, divides-less (gcd (nat_abs a) n) n cs (gcd-right (nat_abs a) n) (divisor-divides cs))

exact-dot : (h : ℕ) (cs : List ℤ) (x : Point) → Divides h cs → dot cs x ≡ pos h *ℤ dot (map (exact_div h) cs) x
unfolding dot
exact-dot h [] x d = sym (*ℤ-zero (pos h))
exact-dot h (a ∷ cs) [] d = sym (*ℤ-zero (pos h))
exact-dot h (a ∷ cs) (y ∷ x) d =
    ap₂ (λ (b r : ℤ). b *ℤ y +ℤ r) (exact h a d.0) (exact-dot h cs x d.1) ∙ simp ring

-- ceil (c / h) + s ≤ 0 exactly when c + h · s ≤ 0
ceil-meets : (h : ℕ) (c s : ℤ) → 0 < h → (ceil_div c h +ℤ s ⊑ pos 0) ↔ (c +ℤ pos h *ℤ s ⊑ pos 0)
ceil-meets h c s l = (
  λ m. omega (
    arith,
    add_parts c (pos h *ℤ s),
    mul-parts (pos h) s,
    simp (neg-up, neg-down) at (ceil-only c h (neg_ℤ s) l (simp (neg-up, neg-down) (omega (arith, add_parts (ceil_div c h) s)))),
  ),
  λ m. omega (
    arith,
    add_parts (ceil_div c h) s,
    simp (neg-up, neg-down) at (ceil-min c h (neg_ℤ s) l (simp (neg-up, neg-down) (omega (arith, add_parts c (pos h *ℤ s), mul-parts (pos h) s)))),
  ),
)

rounded-by-value : (h : ℕ) (k : Constraint) (x : Point) → Divides h k.coefficients → (value (rounded_by h k) x ⊑ pos 0) ↔ (value k x ⊑ pos 0)
unfolding rounded_by value
rounded-by-value zero k x d = (λ m. m, λ m. m)
rounded-by-value (suc h) k x d =
    let s = dot (map (exact_div (suc h)) k.coefficients) x in
    rw (exact-dot (suc h) k.coefficients x d) (ceil-meets (suc h) k.constant s (zero-lt-suc h))

rounded-by-divisor : (h : ℕ) (k : Constraint) → (rounded_by h k).divisor ≡ k.divisor
unfolding rounded_by
rounded-by-divisor zero k = refl
rounded-by-divisor (suc h) k = refl

rounded-as-divisor : (q : ℕ) (k : Constraint) → (rounded_as q k).divisor ≡ k.divisor
unfolding rounded_as
rounded-as-divisor zero k = rounded-by-divisor (common_divisor k.coefficients) k
rounded-as-divisor (suc q) k = refl

pub rounded-divisor : (k : Constraint) → (rounded k).divisor ≡ k.divisor
unfolding rounded
rounded-divisor k = rounded-as-divisor (modulus k) k

rounded-as-meets : (q : ℕ) (k : Constraint) (x : Point) → modulus k ≡ q → Meets x (rounded_as q k) ↔ Meets x k
unfolding rounded_as
rounded-as-meets zero k x e =
    let h = common_divisor k.coefficients in
    let r = rounded_by h k in
    let f : Inequality r = unfold modulus in ap nat_abs (rounded-by-divisor h k) ∙ e in
    let both = rounded-by-value h k x (divisor-divides k.coefficients) in
    (λ m. meets-out x k e (both.0 (meets-in x r f m)), λ m. meets-out x r f (both.1 (meets-in x k e m)))
rounded-as-meets (suc q) k x e = (λ m. m, λ m. m)

pub rounded-meets : (k : Constraint) (x : Point) → Meets x (rounded k) ↔ Meets x k
unfolding rounded
rounded-meets k x = rounded-as-meets (modulus k) k x refl

rounded-by-length : (h : ℕ) (k : Constraint) → length (rounded_by h k).coefficients ≡ length k.coefficients
unfolding rounded_by
rounded-by-length zero k = refl
rounded-by-length (suc h) k = length-map k.coefficients (exact_div (suc h))

rounded-as-length : (q : ℕ) (k : Constraint) → length (rounded_as q k).coefficients ≡ length k.coefficients
unfolding rounded_as
rounded-as-length zero k = rounded-by-length (common_divisor k.coefficients) k
rounded-as-length (suc q) k = refl

pub rounded-length : (k : Constraint) → length (rounded k).coefficients ≡ length k.coefficients
unfolding rounded
rounded-length k = rounded-as-length (modulus k) k

-- a number no farther from zero stays in range
within-less : (b : ℕ) (y z : ℤ) → nat_abs y ≤ nat_abs z → T (within b z) → T (within b y)
unfolding within
within-less b y z h t = between-out b y (omega (arith, between_in b z t))

exact-in-range : (h b : ℕ) (cs : List ℤ) → T (all_of (within b) cs) → T (all_of (within b) (map (exact_div h) cs))
unfolding all_of
exact-in-range h b [] t = tt
exact-in-range h b (a ∷ cs) t =
    and_in (within b (exact_div h a)) (all_of (within b) (map (exact_div h) cs))
    (within-less b (exact_div h a) a (exact-size h a) (and_left (within b a) (all_of (within b) cs) t))
    (exact-in-range h b cs (and_right (within b a) (all_of (within b) cs) t))

rounded-by-in-range : (h : ℕ) (k : Constraint) → T (in_range k) → T (in_range (rounded_by h k))
unfolding rounded_by in_range
rounded-by-in-range zero k t = t
rounded-by-in-range (suc h) k t =
    let c = k.constant in
    let cs = k.coefficients in
    let fits = within max_coefficient in
    and_in (fits (ceil_div c (suc h))) (all_of fits (map (exact_div (suc h)) cs))
    (within-less max_coefficient (ceil_div c (suc h)) c (ceil-size c (suc h)) (and_left (fits c) (all_of fits cs) t))
    (exact-in-range (suc h) max_coefficient cs (and_right (fits c) (all_of fits cs) t))

rounded-as-in-range : (q : ℕ) (k : Constraint) → T (in_range k) → T (in_range (rounded_as q k))
unfolding rounded_as
rounded-as-in-range zero k t = rounded-by-in-range (common_divisor k.coefficients) k t
rounded-as-in-range (suc q) k t = t

pub rounded-in-range : (k : Constraint) → T (in_range k) → T (in_range (rounded k))
unfolding rounded
rounded-in-range k t = rounded-as-in-range (modulus k) k t

-- ---- resolving
mixed-length : (s : ℕ) (cs : List ℤ) (t : ℕ) (ds : List ℤ) → length cs ≡ length ds → length (mixed s cs t ds) ≡ length cs
unfolding mixed
mixed-length s [] t ds e = refl
mixed-length s (a ∷ cs) t [] e = let z : ⊥ = omega arith in absurd z
mixed-length s (a ∷ cs) t (b ∷ ds) e = ap suc (mixed-length s cs t ds (omega arith))

pub resolvent-length : (i : ℕ) (f j : Constraint) → length f.coefficients ≡ length j.coefficients → length (resolvent i f j).coefficients ≡ length f.coefficients
unfolding resolvent combination
resolvent-length i f j e =
    let a = nat_abs (coefficient_at f i) in
    let b = nat_abs (coefficient_at j i) in
    let s = b / gcd a b in
    let t = a / gcd a b in
    rounded-length (combination s f t j) ∙ mixed-length s f.coefficients t j.coefficients e

mixed-zero : (s t : ℕ) → pos 0 ≡ pos s *ℤ pos 0 +ℤ pos t *ℤ pos 0
mixed-zero s t = ap₂ ◌+ℤ◌ (sym (*ℤ-zero (pos s))) (sym (*ℤ-zero (pos t)))

mixed-dot : (s : ℕ) (cs : List ℤ) (t : ℕ) (ds : List ℤ) (x : Point) → length cs ≡ length ds →
    dot (mixed s cs t ds) x ≡ pos s *ℤ dot cs x +ℤ pos t *ℤ dot ds x
unfolding dot mixed
mixed-dot s [] t [] x e = mixed-zero s t
mixed-dot s [] t (b ∷ ds) x e = let z : ⊥ = omega arith in absurd z
mixed-dot s (a ∷ cs) t [] x e = let z : ⊥ = omega arith in absurd z
mixed-dot s (a ∷ cs) t (b ∷ ds) [] e = mixed-zero s t
mixed-dot s (a ∷ cs) t (b ∷ ds) (y ∷ x) e =
    ap (λ (r : ℤ). (pos s *ℤ a +ℤ pos t *ℤ b) *ℤ y +ℤ r) (mixed-dot s cs t ds x (omega arith)) ∙ simp ring

combination-value : (s : ℕ) (f : Constraint) (t : ℕ) (j : Constraint) (x : Point) → length f.coefficients ≡ length j.coefficients →
    value (combination s f t j) x ≡ pos s *ℤ value f x +ℤ pos t *ℤ value j x
unfolding combination value
combination-value s f t j x e =
    ap (λ (r : ℤ). (pos s *ℤ f.constant +ℤ pos t *ℤ j.constant) +ℤ r) (mixed-dot s f.coefficients t j.coefficients x e) ∙ simp ring

combination-meets : (s : ℕ) (f : Constraint) (t : ℕ) (j : Constraint) (x : Point) → length f.coefficients ≡ length j.coefficients →
    value f x ⊑ pos 0 → value j x ⊑ pos 0 → Meets x (combination s f t j)
combination-meets s f t j x e m n =
    let p = value f x in
    let q = value j x in
    let h : pos s *ℤ p +ℤ pos t *ℤ q ⊑ pos 0 = omega (arith, add_parts (pos s *ℤ p) (pos t *ℤ q), ⊑-scale s p (pos 0) m, ⊑-scale t q (pos 0) n) in
    meets-out x (combination s f t j) (unfold modulus combination in refl) (rw (combination-value s f t j x e) h)

pub resolvent-meets : (i : ℕ) (f j : Constraint) (x : Point) → length f.coefficients ≡ length j.coefficients → Inequality f → Inequality j →
    Meets x f → Meets x j → Meets x (resolvent i f j)
unfolding resolvent
resolvent-meets i f j x e g h m n =
    let a = nat_abs (coefficient_at f i) in
    let b = nat_abs (coefficient_at j i) in
    let s = b / gcd a b in
    let t = a / gcd a b in
    (rounded-meets (combination s f t j) x).1 (combination-meets s f t j x e (meets-in x f g m) (meets-in x j h n))

-- a resolvent carries no divisor
pub resolvent-inequality : (i : ℕ) (f j : Constraint) → Inequality (resolvent i f j)
unfolding modulus resolvent combination
resolvent-inequality i f j = ap nat_abs (rounded-divisor _)

-- ---- falsified
pub term-least : (a : ℤ) (b : Bounds) (x : ℤ) → b.lower ⊑ x → x ⊑ b.upper → term a b ⊑ a *ℤ x
unfolding term
term-least (pos a) b x h k = ⊑-scale a b.lower x h
term-least (negsuc a) b x h k = ⊑-flip a x b.upper k

pub terms-least : (cs : List ℤ) (x : Point) (box : Box) → Inside x box → terms cs box ⊑ dot cs x
unfolding terms dot
terms-least [] x box h = omega arith
terms-least (a ∷ cs) [] [] h = omega arith
terms-least (a ∷ cs) [] (b ∷ box) h = absurd h
terms-least (a ∷ cs) (y ∷ x) [] h = absurd h
terms-least (a ∷ cs) (y ∷ x) (b ∷ box) h =
    ⊑-add (term a b) (a *ℤ y) (terms cs box) (dot cs x)
    (term-least a b y (le_in b.lower y h.0.le) (le_in y b.upper h.1.le))
    (terms-least cs x box h.2)

pub activity-least : (k : Constraint) (x : Point) (box : Box) → Inside x box → activity k box ⊑ value k x
unfolding activity value
activity-least k x box h =
    let c = k.constant in
    ⊑-add c c (terms k.coefficients box) (dot k.coefficients x) (omega arith) (terms-least k.coefficients x box h)

-- it stays falsified in smaller boxes
term-nested : (a : ℤ) (b o : Bounds) → o.lower ⊑ b.lower → b.upper ⊑ o.upper → term a o ⊑ term a b
unfolding term
term-nested (pos a) b o h k = ⊑-scale a o.lower b.lower h
term-nested (negsuc a) b o h k = ⊑-flip a b.upper o.upper k

terms-nested : (cs : List ℤ) (box outer : Box) → Nested box outer → terms cs outer ⊑ terms cs box
unfolding terms
terms-nested [] box outer n = omega arith
terms-nested (a ∷ cs) [] [] n = omega arith
terms-nested (a ∷ cs) [] (o ∷ outer) n = absurd n
terms-nested (a ∷ cs) (b ∷ box) [] n = absurd n
terms-nested (a ∷ cs) (b ∷ box) (o ∷ outer) n =
    ⊑-add (term a o) (term a b) (terms cs outer) (terms cs box) (term-nested a b o n.0 n.1) (terms-nested cs box outer n.2)

by-nested : (q : ℕ) (k : Constraint) (box outer : Box) → Ordered box → Nested box outer → T (falsified_by q k outer) → T (falsified_by q k box)
unfolding falsified_by activity
by-nested zero k box outer o n f =
    let c = k.constant in
    let p = terms k.coefficients outer in
    let q = terms k.coefficients box in
    lt_out (pos 0) (c +ℤ q) (omega (
      arith,
      lt_in (pos 0) (c +ℤ p) f,
      ⊑-add c c p q (omega arith) (terms-nested k.coefficients box outer n),
    ))
by-nested (suc q) k box outer o n f = divided-nested q k box outer o n f

pub falsified-nested : (k : Constraint) (box outer : Box) → Ordered box → Nested box outer → T (falsified k outer) → T (falsified k box)
unfolding falsified
falsified-nested k box outer o n f = by-nested (modulus k) k box outer o n f

-- at a single point the test is exact
term-fixed : (a : ℤ) (b : Bounds) → b.upper ⊑ b.lower → a *ℤ b.lower ⊑ term a b
unfolding term
term-fixed (pos a) b h = omega arith
term-fixed (negsuc a) b h = ⊑-flip a b.upper b.lower h

terms-fixed : (cs : List ℤ) (box : Box) → Fixed box → dot cs (lowers box) ⊑ terms cs box
unfolding terms dot lowers
terms-fixed [] box h = omega arith
terms-fixed (a ∷ cs) [] h = omega arith
terms-fixed (a ∷ cs) (b ∷ box) h =
    ⊑-add (a *ℤ b.lower) (term a b) (dot cs (lowers box)) (terms cs box) (term-fixed a b h.0) (terms-fixed cs box h.1)

by-fixed : (q : ℕ) (k : Constraint) (box : Box) → Fixed box → T (not (falsified_by q k box)) → MeetsBy q (lowers box) k
unfolding falsified_by activity value
by-fixed zero k box h f =
    let c = k.constant in
    let p = dot k.coefficients (lowers box) in
    let q = terms k.coefficients box in
    record {
      le =
          le_out (c +ℤ p) (pos 0) (omega (
            arith,
            nlt-in (pos 0) (c +ℤ q) f,
            ⊑-add c c p q (omega arith) (terms-fixed k.coefficients box h),
          ));
    }
by-fixed (suc q) k box h f = is_true _ (twice (divides (suc q) (value k (lowers box))) (rw (divided-fixed q k box h) at f))
  where
    twice : (t : Bool) → T (not (not t)) → T t
    twice true h = tt
    twice false h = h

pub fixed-meets : (k : Constraint) (box : Box) → Fixed box → T (not (falsified k box)) → Meets (lowers box) k
unfolding falsified
fixed-meets k box h f = by-fixed (modulus k) k box h f

-- no point inside meets a constraint that is falsified there
by-empty : (q : ℕ) (k : Constraint) (x : Point) (box : Box) → T (falsified_by q k box) → Inside x box → MeetsBy q x k → ⊥
unfolding falsified_by
by-empty zero k x box f h m = omega (arith, activity-least k x box h, lt_in (pos 0) (activity k box) f, le_in (value k x) (pos 0) m.le)
by-empty (suc q) k x box f h m =
    let g = divided-nested q k (alone x) box (alone-ordered x) (alone-nested x box h) (unfold falsified_by in f) in
    not-out (divides (suc q) (value k x)) (rw (divided-fixed q k (alone x) (alone-fixed x), alone-lowers x) at g) (of-true _ m)

pub falsified-empty : (k : Constraint) (x : Point) (box : Box) → T (falsified k box) → Inside x box → Meets x k → ⊥
unfolding falsified
falsified-empty k x box f h m = by-empty (modulus k) k x box f h m

-- ---- bounds set at a variable that the constraint does not have
terms-unseen : (cs : List ℤ) (i : ℕ) (c : Bounds) (box : Box) → get_or cs i (pos 0) ≡ pos 0 → terms cs (set box i c) ≡ terms cs box
unfolding terms term
terms-unseen [] i c box e = refl
terms-unseen (a ∷ cs) i c [] e = refl
terms-unseen (a ∷ cs) zero c (b ∷ box) e = rw (e, zero-*ℤ c.lower, zero-*ℤ b.lower)
terms-unseen (a ∷ cs) (suc i) c (b ∷ box) e = ap (λ (s : ℤ). term a b +ℤ s) (terms-unseen cs i c box e)

by-unseen : (q : ℕ) (k : Constraint) (i : ℕ) (c : Bounds) (box : Box) → coefficient_at k i ≡ pos 0 → falsified_by q k (set box i c) ≡ falsified_by q k box
unfolding falsified_by activity coefficient_at
by-unseen zero k i c box e = rw (terms-unseen k.coefficients i c box e)
by-unseen (suc q) k i c box e = divided-unseen q k i c box e

pub lower-unseen : (k : Constraint) (i : ℕ) (v : ℤ) (box : Box) → coefficient_at k i ≡ pos 0 → falsified k (set_lower i v box) ≡ falsified k box
unfolding falsified set_lower
lower-unseen k i v box e = by-unseen (modulus k) k i _ box e

pub upper-unseen : (k : Constraint) (i : ℕ) (v : ℤ) (box : Box) → coefficient_at k i ≡ pos 0 → falsified k (set_upper i v box) ≡ falsified k box
unfolding falsified set_upper
upper-unseen k i v box e = by-unseen (modulus k) k i _ box e
