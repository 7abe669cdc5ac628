-- What the next move says of the kept constraints and the deepest level's box.
use Prim.Native.Nat.{ℕ, zero, suc, ◌+◌, ◌<◌}
use native.Mathlib.Nat.{zero-add, add-zero, suc-add, add-suc, zero-lt-suc}
use native.Mathlib.Omega.{arith}
use mathlib.Core.Bool.{Bool, true, false, not, cond}
use mathlib.Core.List.{List, [], ◌∷◌}
use mathlib.Core.Option.{Option, none, some}
use mathlib.Core.Path.{◌≡◌, refl, ap}
use lib.Dec.{T}
use lib.IntN.{ℤ, pos, negsuc, neg_ℤ, ◌+ℤ◌, ◌-ℤ◌, ◌*ℤ◌}
use lib.ListN.{get_or, drop, length, length-drop}
use lib.Seq.{drop-cons}
use lib.Signed.{lt_z}
use Rattle.model_problems.specs.Lists.{or_else, with_default}
use Rattle.model_problems.specs.Constraint.{Constraint, Box, modulus, no_bounds, lower_at, upper_at, term, terms, activity, falsified_by, falsified, implied_lower, implied_upper}
use Rattle.model_files.specs.File.{no_constraint}
use Rattle.model_walk.specs.Move.{Move, conflict, new_lower, new_upper, decide, finish, first_falsified, improvement_at, improvement_from, improvement_by, first_improvement, first_open, next_move}
use Rattle.model_problems.specs.Points.{Point, Inside, dot, value, Meets}
use Rattle.integer.specs.Parts.{◌⊑◌, ◌⊏◌, add_parts, sub_parts, mul-parts, neg-up, neg-down, le_in, lt_in, nlt-in}
use Rattle.integer.specs.Rounding.{floor-max, ceil-min}
use Rattle.validity.proofs.Boxes.{Ordered, Fixed, FirstOpen}
use Rattle.validity.proofs.Constraints.{Inequality, meets-in, term-least, terms-least}

-- no constraint is falsified
abbrev pub Clear : List Constraint → Box → Type 0
Clear [] box = Unit {0}
Clear (k ∷ ks) box = T (not (falsified k box)) × Clear ks box

pub record Falsifies (ks : List Constraint) (box : Box) (j : ℕ) : Type 0 where
  pub at : j < length ks
  pub false : T (falsified (get_or ks j no_constraint) box)

-- a lower bound that rises, crosses no upper bound and loses no point that meets the constraint
pub record Raises (ks : List Constraint) (box : Box) (j i : ℕ) (v : ℤ) : Type 0 where
  pub clear : Clear ks box
  pub constraint : j < length ks
  pub variable : i < length box
  pub better : lower_at box i ⊏ v
  pub fits : v ⊑ upper_at box i
  pub implied : (x : Point) → Inside x box → Meets x (get_or ks j no_constraint) → v ⊑ get_or x i (pos 0)

pub record Lowers (ks : List Constraint) (box : Box) (j i : ℕ) (v : ℤ) : Type 0 where
  pub clear : Clear ks box
  pub constraint : j < length ks
  pub variable : i < length box
  pub better : v ⊏ upper_at box i
  pub fits : lower_at box i ⊑ v
  pub implied : (x : Point) → Inside x box → Meets x (get_or ks j no_constraint) → get_or x i (pos 0) ⊑ v

pub record Decides (ks : List Constraint) (box : Box) (i : ℕ) : Type 0 where
  pub clear : Clear ks box
  pub first : FirstOpen i box

pub record Finishes (ks : List Constraint) (box : Box) : Type 0 where
  pub clear : Clear ks box
  pub fixed : Fixed box

abbrev pub Chosen : List Constraint → Box → Move → Type 0
Chosen ks box (conflict j) = Falsifies ks box j
Chosen ks box (new_lower j i v) = Raises ks box j i v
Chosen ks box (new_upper j i v) = Lowers ks box j i v
Chosen ks box (decide i) = Decides ks box i
Chosen ks box finish = Finishes ks box

-- ---- a bound that a constraint implies: p is its activity without the variable
implied-lower : (p : ℤ) (a : ℕ) (x : ℤ) → p +ℤ negsuc a *ℤ x ⊑ pos 0 → implied_lower p (suc a) ⊑ x
unfolding implied_lower
implied-lower p a x m =
    ceil-min p (suc a) x (zero-lt-suc a) (omega (arith, add_parts p (negsuc a *ℤ x), mul-parts (negsuc a) x))

implied-upper : (p : ℤ) (a : ℕ) (x : ℤ) → p +ℤ pos (suc a) *ℤ x ⊑ pos 0 → x ⊑ implied_upper p (suc a)
unfolding implied_upper
implied-upper p a x m =
    floor-max (neg_ℤ p) (suc a) x (zero-lt-suc a)
    (omega (arith, add_parts p (pos (suc a) *ℤ x), mul-parts (pos (suc a)) x, neg-up p, neg-down p))

-- one variable's value put in place of its term, the others' terms stay below
terms-but : (i : ℕ) (cs : List ℤ) (x : Point) (box : Box) → Inside x box → i < length cs → i < length box →
    terms cs box +ℤ get_or cs i (pos 0) *ℤ get_or x i (pos 0) ⊑ dot cs x +ℤ term (get_or cs i (pos 0)) (get_or box i no_bounds)
unfolding terms dot
terms-but i [] x box h l m = let z : ⊥ = omega arith in absurd z
terms-but i (a ∷ cs) x [] h l m = let z : ⊥ = omega arith in absurd z
terms-but i (a ∷ cs) [] (b ∷ box) h l m = absurd h
terms-but zero (a ∷ cs) (y ∷ x) (b ∷ box) h l m =
    omega (
      arith,
      add_parts (term a b +ℤ terms cs box) (a *ℤ y),
      add_parts (term a b) (terms cs box),
      add_parts (a *ℤ y +ℤ dot cs x) (term a b),
      add_parts (a *ℤ y) (dot cs x),
      terms-least cs x box h.2,
    )
terms-but (suc i) (a ∷ cs) (y ∷ x) (b ∷ box) h l m =
    let t = get_or cs i (pos 0) *ℤ get_or x i (pos 0) in
    let u = term (get_or cs i (pos 0)) (get_or box i no_bounds) in
    omega (
      arith,
      add_parts (term a b +ℤ terms cs box) t,
      add_parts (term a b) (terms cs box),
      add_parts (terms cs box) t,
      add_parts (a *ℤ y +ℤ dot cs x) u,
      add_parts (a *ℤ y) (dot cs x),
      add_parts (dot cs x) u,
      term-least a b y (le_in b.lower y h.0.le) (le_in y b.upper h.1.le),
      terms-but i cs x box h.2 (omega arith) (omega arith),
    )

activity-but : (i : ℕ) (k : Constraint) (x : Point) (box : Box) → Inside x box → i < length k.coefficients → i < length box → value k x ⊑ pos 0 →
    (activity k box -ℤ term (get_or k.coefficients i (pos 0)) (get_or box i no_bounds)) +ℤ get_or k.coefficients i (pos 0) *ℤ get_or x i (pos 0) ⊑ pos 0
unfolding activity value
activity-but i k x box h l n m =
    let c = k.constant in
    let cs = k.coefficients in
    let t = term (get_or cs i (pos 0)) (get_or box i no_bounds) in
    let u = get_or cs i (pos 0) *ℤ get_or x i (pos 0) in
    let w = c +ℤ terms cs box in
    omega (
      arith,
      add_parts (w -ℤ t) u,
      sub_parts w t,
      add_parts c (terms cs box),
      add_parts c (dot cs x),
      add_parts (terms cs box) u,
      add_parts (dot cs x) t,
      terms-but i cs x box h l n,
      m,
    )

-- the element where a list goes on with y
drop_here : {A : Type 0} (s : List A) (i : ℕ) (d : A) {y : A} {ys : List A} → drop i s ≡ y ∷ ys →
    (i < length s) × (get_or s i d ≡ y) × (drop (suc i) s ≡ ys)
drop_here s i d e =
    let h : i < length s = omega (arith, length-drop i s, ap length e) in
    let c = drop-cons s i d h in
    (h, cc, cc)

-- ---- the scans
module _ (ks : List Constraint) (box : Box) where
  -- what a scan finds is chosen rightly, and where it finds nothing q holds
  data Found (q : Type 0) : Option Move → Type 0 where
    nothing : q → Found q none
    move : {m : Move} → Chosen ks box m → Found q (some m)

  test-found : {q : Type 0} {o : Option Move} (t : Bool) (m : Move) → (T t → Chosen ks box m) → (T (not t) → Found q o) → Found q (cond t (some m) o)
  test-found true m f g = move (f tt)
  test-found false m f g = g tt

  or-found : {q r : Type 0} {o s : Option Move} → Found q o → (q → Found r s) → Found r (or_else o s)
  unfolding or_else
  or-found (nothing h) g = g h
  or-found (move h) g = move h

  default-found : {o : Option Move} → Found (Finishes ks box) o → Chosen ks box (with_default finish o)
  unfolding with_default
  default-found (nothing h) = h
  default-found (move h) = h

  falsified-found : (j : ℕ) (rest : List Constraint) → drop j ks ≡ rest → (Clear rest box → Clear ks box) → Found (Clear ks box) (first_falsified j rest box)
  unfolding first_falsified
  falsified-found j [] e all = nothing (all tt)
  falsified-found j (k ∷ rest) e all =
      let here = drop_here ks j no_constraint e in
      test-found (falsified k box) (conflict j)
      (λ t. record { at = here.0; false = rw here.1 t })
      (λ t. falsified-found (suc j) rest here.2 (λ c. all (t, c)))

  module _ (clear : Clear ks box) where
    -- constraint j at variable i, with coefficient a
    improved-at : (j i : ℕ) (p a : ℤ) → j < length ks → i < length box → p +ℤ term a (get_or box i no_bounds) ⊑ pos 0 →
        ((x : Point) → Inside x box → Meets x (get_or ks j no_constraint) → p +ℤ a *ℤ get_or x i (pos 0) ⊑ pos 0) →
        Found (Unit {0}) (improvement_at j i p a (get_or box i no_bounds))
    unfolding improvement_at lower_at upper_at term
    improved-at j i p (pos zero) hj hi low met = nothing tt
    improved-at j i p (pos (suc a)) hj hi low met =
        let b = get_or box i no_bounds in
        let v = implied_upper p (suc a) in
        test-found (lt_z v b.upper) (new_upper j i v)
        (λ t. record {
          clear = clear;
          constraint = hj;
          variable = hi;
          better = lt_in v b.upper t;
          fits = implied-upper p a b.lower low;
          implied = λ x h m. implied-upper p a (get_or x i (pos 0)) (met x h m);
        })
        (λ t. nothing tt)
    improved-at j i p (negsuc a) hj hi low met =
        let b = get_or box i no_bounds in
        let v = implied_lower p (suc a) in
        test-found (lt_z b.lower v) (new_lower j i v)
        (λ t. record {
          clear = clear;
          constraint = hj;
          variable = hi;
          better = lt_in b.lower v t;
          fits = implied-lower p a b.upper low;
          implied = λ x h m. implied-lower p a (get_or x i (pos 0)) (met x h m);
        })
        (λ t. nothing tt)

    improved-from : (j : ℕ) → j < length ks → Inequality (get_or ks j no_constraint) → activity (get_or ks j no_constraint) box ⊑ pos 0 → (i : ℕ) (cs : List ℤ) (rest : Box) →
        drop i (get_or ks j no_constraint).coefficients ≡ cs → drop i box ≡ rest →
        Found (Unit {0}) (improvement_from j i (activity (get_or ks j no_constraint) box) cs rest)
    unfolding improvement_from
    improved-from j hj own low i [] rest e f = nothing tt
    improved-from j hj own low i (a ∷ cs) [] e f = nothing tt
    improved-from j hj own low i (a ∷ cs) (b ∷ rest) e f =
        let k = get_or ks j no_constraint in
        let here = drop_here k.coefficients i (pos 0) e in
        let there = drop_here box i no_bounds f in
        let w = activity k box in
        let c = get_or k.coefficients i (pos 0) in
        let t = term c (get_or box i no_bounds) in
        let found =
        improved-at j i (w -ℤ t) c hj there.0 (omega (arith, add_parts (w -ℤ t) t, sub_parts w t))
        (λ x h m. activity-but i k x box h here.0 there.0 (meets-in x k own m)) in
        or-found {q = Unit {0}} (rw (← here.1, ← there.1) found)
        (λ u. improved-from j hj own low (suc i) cs rest here.2 there.2)

    -- a divisor constraint implies no bound
    improved-by : (q j : ℕ) → j < length ks → modulus (get_or ks j no_constraint) ≡ q → T (not (falsified_by q (get_or ks j no_constraint) box)) →
        Found (Unit {0}) (improvement_by q j (get_or ks j no_constraint) box)
    unfolding improvement_by falsified_by
    improved-by zero j hj own c = improved-from j hj own (nlt-in (pos 0) (activity (get_or ks j no_constraint) box) c) 0 _ box refl refl
    improved-by (suc q) j hj own c = nothing tt

    improved-found : (j : ℕ) (rest : List Constraint) → drop j ks ≡ rest → Clear rest box → Found (Unit {0}) (first_improvement j rest box)
    unfolding first_improvement falsified
    improved-found j [] e c = nothing tt
    improved-found j (k ∷ rest) e c =
        let here = drop_here ks j no_constraint e in
        or-found {q = Unit {0}}
        (rw (← here.1) (improved-by _ j here.0 refl (rw here.1 c.0)))
        (λ u. improved-found (suc j) rest here.2 c.1)

    open-found : (i : ℕ) (rest : Box) → ((n : ℕ) → FirstOpen n rest → FirstOpen (i + n) box) → (Fixed rest → Fixed box) →
        Found (Finishes ks box) (first_open i rest)
    unfolding first_open
    open-found i [] first all = nothing (record { clear = clear; fixed = all tt })
    open-found i (b ∷ rest) first all =
        test-found (lt_z b.lower b.upper) (decide i)
        (λ t. record { clear = clear; first = rw add-zero at (first 0 (lt_in b.lower b.upper t)) })
        (λ t. let h = nlt-in b.lower b.upper t in
        open-found (suc i) rest (λ n f. rw (suc-add, ← add-suc) (first (suc n) (h, f))) (λ f. all (h, f)))

    clear-found : Found (Finishes ks box) (or_else (first_improvement 0 ks box) (first_open 0 box))
    clear-found = or-found (improved-found 0 ks refl clear) (λ u. open-found 0 box (λ n f. rw zero-add f) (λ f. f))

pub next-chosen : (ks : List Constraint) (box : Box) → Ordered box → Chosen ks box (next_move ks box)
unfolding next_move
next-chosen ks box o = default-found ks box (or-found ks box (falsified-found ks box 0 ks refl (λ c. c)) (clear-found ks box))
