-- The number of points in a box is the product of its variables' numbers of values, and `points_in` lists each point once, in dictionary order.
use Prim.Native.Nat.{ℕ, zero, suc, ◌+◌, ◌*◌, ◌≤◌, ◌<◌}
use native.Mathlib.Nat.{mul-le-mul}
use native.Mathlib.Omega.{arith}
use mathlib.Core.Bool.{Bool, true, false, cond}
use mathlib.Core.List.{List, [], ◌∷◌, ◌++◌, map, nil≢cons, cons≢nil}
use mathlib.Core.Logic.{◌⊎◌, inl, inr, ⊎_elim, ◌↔◌}
use mathlib.Core.Path.{◌≡◌, refl, sym, ap, subst, ◌∙◌}
use lib.Dec.{T}
use lib.IntN.{ℤ, suc_ℤ}
use lib.ListN.{length, length-append, length-map}
use Rattle.model_problems.specs.Lists.{filter}
use Rattle.model_problems.specs.Constraint.{Box, lower_at, upper_at, set_lower, set_upper}
use Rattle.model_problems.specs.Threshold.{threshold_at, allowed, next_value}
use Rattle.model_problems.specs.Problem.{Problem}
use Rattle.model_problems.specs.Points.{Point, Inside, Allowed, numbers_from, values, prefixed, points_in, all_points, points, Before}
use Rattle.model_claims.specs.Demand.{In, NoRepeats}
use Rattle.model_claims.specs.Enumeration.{BeforeAll, Ascending}
use Rattle.integer.specs.Parts.{up, down, ◌⊑◌, ◌⊏◌, suc-parts, le_in, le_out, lt_in, lt_out, eq-in, eq-out}
use Rattle.integer.specs.Order.{≤-or-<}
use Rattle.lists.proofs.Bools.{true_of, T_of}
use Rattle.validity.proofs.Boxes.{Ordered, Nested, OpenAt, low_half, high_half}
use Rattle.validity.proofs.Thresholds.{Outside}
use Rattle.soundness.proofs.Values.{whole_parts, values_between, values-next, values-alone, values-nested}

unfoldable pub size : List ℤ → Box → ℕ
size [] [] = 1
size [] (b ∷ box) = 0
size (t ∷ ts) [] = 0
size (t ∷ ts) (b ∷ box) = values_between t b.lower b.upper * size ts box

pub size-positive : (ts : List ℤ) (box : Box) → Ordered box → Outside ts box → 1 ≤ size ts box
unfolding size
size-positive [] [] o a = omega arith
size-positive [] (b ∷ box) o a = absurd a
size-positive (t ∷ ts) [] o a = absurd a
size-positive (t ∷ ts) (b ∷ box) o a =
    mul-le-mul {n₁ = 1} {m₁ = 1} (omega (arith, values-next t b.lower b.upper a.0 o.0)) (size-positive ts box o.1 a.2)

pub size-nested : (ts : List ℤ) (box outer : Box) → Ordered box → Nested box outer → size ts box ≤ size ts outer
unfolding size
size-nested [] [] [] o n = omega arith
size-nested [] (b ∷ box) (c ∷ outer) o n = omega arith
size-nested (t ∷ ts) [] [] o n = omega arith
size-nested ts [] (c ∷ outer) o n = absurd n
size-nested ts (b ∷ box) [] o n = absurd n
size-nested (t ∷ ts) (b ∷ box) (c ∷ outer) o n =
    mul-le-mul (values-nested t b.lower b.upper c.lower c.upper n.0 o.0 n.1) (size-nested ts box outer o.1 n.2)

pub halves-size : (ts : List ℤ) (i : ℕ) (box : Box) → Ordered box → Outside ts box → OpenAt box i →
    size ts (low_half i box) + size ts (high_half (threshold_at ts i) i box) ≡ size ts box
unfolding size low_half high_half set_lower set_upper lower_at upper_at threshold_at
halves-size ts i [] o a w = let z : ⊥ = omega arith in absurd z
halves-size [] i (b ∷ box) o a w = absurd a
halves-size (t ∷ ts) zero (b ∷ box) o a w =
    let e : values_between t b.lower b.lower + values_between t (next_value t b.lower) b.upper ≡ values_between t b.lower b.upper
    = omega (arith, values-next t b.lower b.upper a.0 o.0, values-alone t b.lower a.0) in
    omega (arith, ap (λ (n : ℕ). n * size ts box) e)
halves-size (t ∷ ts) (suc i) (b ∷ box) o a w =
    let e = halves-size ts i box o.1 a.2 (record { at = omega arith; wide = w.wide }) in
    omega (arith, ap (λ (n : ℕ). values_between t b.lower b.upper * n) e)

-- ---- and the list
prefixed-length : (xs : List ℤ) (vs : List Point) → length (prefixed xs vs) ≡ length xs * length vs
unfolding prefixed
prefixed-length [] vs = omega arith
prefixed-length (x ∷ xs) vs = simp (length-append, length-map, prefixed-length xs vs) (omega arith)

points-in : (ts : List ℤ) (box : Box) → length (points_in ts box) ≡ size ts box
unfolding points_in size values_between
points-in [] [] = refl
points-in [] (b ∷ box) = refl
points-in (t ∷ ts) [] = refl
points-in (t ∷ ts) (b ∷ box) = rw (prefixed-length, points-in ts box)

pub points-size : (p : Problem) → points p ≡ size p.thresholds p.domain
unfolding points all_points
points-size p = points-in p.thresholds p.domain

-- ---- every point is in the list
append_left : (w : Point) (us vs : List Point) → In w us → In w (us ++ vs)
append_left w [] vs m = absurd m
append_left w (u ∷ us) vs (inl e) = inl e
append_left w (u ∷ us) vs (inr m) = inr (append_left w us vs m)

append_right : (w : Point) (us vs : List Point) → In w vs → In w (us ++ vs)
append_right w [] vs m = m
append_right w (u ∷ us) vs m = inr (append_right w us vs m)

append-out : (w : Point) (us vs : List Point) → In w (us ++ vs) → In w us ⊎ In w vs
append-out w [] vs m = inr m
append-out w (u ∷ us) vs (inl e) = inl (inl e)
append-out w (u ∷ us) vs (inr m) = ⊎_elim (λ k. inl (inr k)) (λ k. inr k) (append-out w us vs m)

-- each point behind the value l
abbrev behind : ℤ → List Point → List Point
behind l vs = map (λ (v : Point). l ∷ v) vs

-- the first value is such, and the others are a point of the list
abbrev Led : (ℤ → Type 0) → List Point → Point → Type 0
Led p vs [] = ⊥
Led p vs (x ∷ w) = p x × In w vs

led-map : (p q : ℤ → Type 0) (vs : List Point) (w : Point) → ((x : ℤ) → p x → q x) → Led p vs w → Led q vs w
led-map p q vs [] f h = h
led-map p q vs (x ∷ w) f h = (f x h.0, h.1)

behind-in : (l : ℤ) (vs : List Point) (x : ℤ) (w : Point) → x ≡ l → In w vs → In (x ∷ w) (behind l vs)
behind-in l [] x w e m = m
behind-in l (v ∷ vs) x w e (inl k) = inl (cc)
behind-in l (v ∷ vs) x w e (inr m) = inr (behind-in l vs x w e m)

behind-out : (l : ℤ) (vs : List Point) (w : Point) → In w (behind l vs) → Led (λ x. x ≡ l) vs w
behind-out l [] w m = absurd m
behind-out l (v ∷ vs) [] (inl e) = nil≢cons e
behind-out l (v ∷ vs) [] (inr m) = behind-out l vs [] m
behind-out l (v ∷ vs) (x ∷ w) (inl e) = (cc, inl (cc))
behind-out l (v ∷ vs) (x ∷ w) (inr m) = let r = behind-out l vs (x ∷ w) m in (r.0, inr r.1)

-- x is one of those of the n numbers from l on that the variable may have
abbrev Among : ℤ → ℕ → ℤ → ℤ → Type 0
Among t n l x = (l ⊑ x) × (up x + down l < n + (up l + down x)) × T (allowed t x)

-- those numbers
unfoldable among : ℤ → ℕ → ℤ → List ℤ
among t n l = filter (allowed t) (numbers_from n l)

among-suc : (t : ℤ) (n : ℕ) (l : ℤ) → among t (suc n) l ≡ cond (allowed t l) (l ∷ among t n (suc_ℤ l)) (among t n (suc_ℤ l))
unfolding among filter numbers_from
among-suc t n l = refl

prefixed-in : (t : ℤ) (n : ℕ) (l : ℤ) (vs : List Point) (x : ℤ) (w : Point) → Among t n l x → In w vs → In (x ∷ w) (prefixed (among t n l) vs)
unfolding prefixed
prefixed-in t zero l vs x w a m = let z : ⊥ = omega arith in absurd z
prefixed-in t (suc n) l vs x w a m = rw among-suc (go (allowed t l) refl (λ b. prefixed-in t n (suc_ℤ l) vs x w b m))
  where
    later : l ⊏ x → Among t n (suc_ℤ l) x
    later h = let s = suc-parts l in (omega arith, omega arith, a.2)

    go : (b : Bool) → allowed t l ≡ b → (Among t n (suc_ℤ l) x → In (x ∷ w) (prefixed (among t n (suc_ℤ l)) vs)) → In (x ∷ w) (prefixed (cond b (l ∷ among t n (suc_ℤ l)) (among t n (suc_ℤ l))) vs)
    go true e f =
        let rest = prefixed (among t n (suc_ℤ l)) vs in
        ⊎_elim
        (λ h. append_left (x ∷ w) (behind l vs) rest (behind-in l vs x w (eq-out x l (omega (arith, le_in))) m))
        (λ h. append_right (x ∷ w) (behind l vs) rest (f (later (lt_in l x h.lt))))
        (≤-or-< x l)
    go false e f =
        ⊎_elim
        (λ h. let here : x ≡ l = eq-out x l (omega (arith, le_in)) in absurd (subst T (ap (allowed t) here ∙ e) a.2))
        (λ h. f (later (lt_in l x h.lt)))
        (≤-or-< x l)

prefixed-out : (t : ℤ) (n : ℕ) (l : ℤ) (vs : List Point) (w : Point) → In w (prefixed (among t n l) vs) → Led (Among t n l) vs w
unfolding prefixed
prefixed-out t zero l vs w m = absurd (unfold among filter numbers_from in m)
prefixed-out t (suc n) l vs w m = go (allowed t l) refl (prefixed-out t n (suc_ℤ l) vs w) (rw among-suc at m)
  where
    later : Led (Among t n (suc_ℤ l)) vs w → Led (Among t (suc n) l) vs w
    later = led-map (Among t n (suc_ℤ l)) (Among t (suc n) l) vs w (λ x a. let s = suc-parts l in (omega arith, omega arith, a.2))

    here : allowed t l ≡ true → (x : ℤ) → x ≡ l → Among t (suc n) l x
    here e x k = let z = eq-in x l k in (omega arith, omega arith, T_of (ap (allowed t) k ∙ e))

    go : (b : Bool) → allowed t l ≡ b → (In w (prefixed (among t n (suc_ℤ l)) vs) → Led (Among t n (suc_ℤ l)) vs w) → In w (prefixed (cond b (l ∷ among t n (suc_ℤ l)) (among t n (suc_ℤ l))) vs) → Led (Among t (suc n) l) vs w
    go true e f k =
        ⊎_elim (λ h. led-map (λ x. x ≡ l) (Among t (suc n) l) vs w (here e) (behind-out l vs w h)) (λ h. later (f h)) (append-out w (behind l vs) (prefixed (among t n (suc_ℤ l)) vs) k)
    go false e f k = later (f k)

pub points-every : (ts : List ℤ) (box : Box) (v : Point) → (Inside v box × Allowed ts v) ↔ In v (points_in ts box)
unfolding points_in values among
points-every [] [] [] = (λ h. inl refl, λ m. (tt, tt))
points-every [] [] (x ∷ v) = (λ h. absurd h.0, λ m. absurd (⊎_elim cons≢nil (λ k. k) m))
points-every [] (b ∷ box) [] = (λ h. absurd h.0, λ m. absurd m)
points-every [] (b ∷ box) (x ∷ v) = (λ h. absurd h.1, λ m. absurd m)
points-every (t ∷ ts) [] v = (λ h. absurd (uneven v h.0 h.1), λ m. absurd m)
  where
    uneven : (v : Point) → Inside v [] → Allowed (t ∷ ts) v → ⊥
    uneven [] i a = a
    uneven (x ∷ v) i a = i
points-every (t ∷ ts) (b ∷ box) [] = (λ h. absurd h.0, λ m. absurd (prefixed-out t _ b.lower (points_in ts box) [] m))
points-every (t ∷ ts) (b ∷ box) (x ∷ v) = (
  λ h.
      prefixed-in t _ b.lower (points_in ts box) x v
      (omega (arith, le_in), omega (arith, le_in, whole_parts b.lower b.upper), T_of h.1.0) ((points-every ts box v).0 (h.0.2, h.1.1)),
  λ m.
      let r = prefixed-out t _ b.lower (points_in ts box) (x ∷ v) m in
      let e = whole_parts b.lower b.upper in
      let rest = (points-every ts box v).1 r.1 in
      ((omega (arith, le_out), omega (arith, le_out), rest.0), (true_of _ r.0.2, rest.1)),
)

-- ---- in dictionary order, and so each once
pub before-asym : (u v : Point) → Before u v → Before v u → ⊥
before-asym [] v h g = h
before-asym (x ∷ u) [] h g = h
before-asym (x ∷ u) (y ∷ v) (inl h) (inl g) = omega (arith, lt_in x y h.lt, lt_in y x g.lt)
before-asym (x ∷ u) (y ∷ v) (inl h) (inr g) = omega (arith, lt_in x y h.lt, ap up g.0, ap down g.0)
before-asym (x ∷ u) (y ∷ v) (inr h) (inl g) = omega (arith, lt_in y x g.lt, ap up h.0, ap down h.0)
before-asym (x ∷ u) (y ∷ v) (inr h) (inr g) = before-asym u v h.1 g.1

pub not-before-itself : (u v : Point) → u ≡ v → Before u v → ⊥
not-before-itself u v e h = before-asym u v h (subst (λ (w : Point). Before v w) (sym e) (subst (λ (w : Point). Before w v) e h))

pub before-each : (v : Point) (us : List Point) → BeforeAll v us → (w : Point) → In w us → Before v w
before-each v [] h w m = absurd m
before-each v (u ∷ us) h w (inl e) = subst (Before v) (sym e) h.0
before-each v (u ∷ us) h w (inr m) = before-each v us h.1 w m

pub before-all : (v : Point) (us : List Point) → ((w : Point) → In w us → Before v w) → BeforeAll v us
before-all v [] f = tt
before-all v (u ∷ us) f = (f u (inl refl), before-all v us (λ w m. f w (inr m)))

append-ascending : (us vs : List Point) → Ascending us → Ascending vs → ((u w : Point) → In u us → In w vs → Before u w) → Ascending (us ++ vs)
append-ascending [] vs a b f = b
append-ascending (u ∷ us) vs a b f = (
  before-all u (us ++ vs) (λ w m. ⊎_elim (before-each u us a.0 w) (f u w (inl refl)) (append-out w us vs m)),
  append-ascending us vs a.1 b (λ x w m. f x w (inr m)),
)

behind-ascending : (l : ℤ) (vs : List Point) → Ascending vs → Ascending (behind l vs)
behind-ascending l [] a = tt
behind-ascending l (v ∷ vs) a = (each vs a.0, behind-ascending l vs a.1)
  where
    each : (us : List Point) → BeforeAll v us → BeforeAll (l ∷ v) (behind l us)
    each [] h = tt
    each (u ∷ us) h = (inr (refl, h.0), each us h.1)

led-before : (t : ℤ) (n : ℕ) (l : ℤ) (vs : List Point) (u w : Point) → Led (λ x. x ≡ l) vs u → Led (Among t n (suc_ℤ l)) vs w → Before u w
led-before t n l vs [] w h k = absurd h
led-before t n l vs (x ∷ u) [] h k = absurd k
led-before t n l vs (x ∷ u) (y ∷ w) h k = inl (record { lt = lt_out x y (omega (arith, eq-in x l h.0, suc-parts l)) })

prefixed-ascending : (t : ℤ) (n : ℕ) (l : ℤ) (vs : List Point) → Ascending vs → Ascending (prefixed (among t n l) vs)
unfolding prefixed
prefixed-ascending t zero l vs a = unfold among filter numbers_from in tt
prefixed-ascending t (suc n) l vs a = rw among-suc (go (allowed t l) (prefixed-ascending t n (suc_ℤ l) vs a))
  where
    go : (b : Bool) → Ascending (prefixed (among t n (suc_ℤ l)) vs) → Ascending (prefixed (cond b (l ∷ among t n (suc_ℤ l)) (among t n (suc_ℤ l))) vs)
    go true h =
        append-ascending (behind l vs) (prefixed (among t n (suc_ℤ l)) vs) (behind-ascending l vs a) h
        (λ u w m k. led-before t n l vs u w (behind-out l vs u m) (prefixed-out t n (suc_ℤ l) vs w k))
    go false h = h

pub points-ascending : (ts : List ℤ) (box : Box) → Ascending (points_in ts box)
unfolding points_in values among
points-ascending [] [] = (tt, tt)
points-ascending [] (b ∷ box) = tt
points-ascending (t ∷ ts) [] = tt
points-ascending (t ∷ ts) (b ∷ box) = prefixed-ascending t _ b.lower (points_in ts box) (points-ascending ts box)

ascending-once : (vs : List Point) → Ascending vs → NoRepeats vs
ascending-once [] a = tt
ascending-once (v ∷ vs) a = (λ m. not-before-itself v v refl (before-each v vs a.0 v m), ascending-once vs a.1)

pub points-once : (ts : List ℤ) (box : Box) → NoRepeats (points_in ts box)
points-once ts box = ascending-once (points_in ts box) (points-ascending ts box)
