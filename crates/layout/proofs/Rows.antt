-- What the views show at an index, and what a store to an array does to them.
use Prim.Native.Nat.{ℕ, ◌+◌, ◌<◌, ◌≤◌}
use native.Mathlib.Omega.{arith}
use mathlib.Core.List.{List}
use mathlib.Core.Path.{◌≡◌, refl, sym, ap, ap₂, ◌∙◌}
use lib.IntN.{ℤ, pos}
use lib.ListN.{get_or, set, length}
use Rattle.model_problems.specs.Constraint.{Constraint, Bounds, no_bounds, coefficient_at, lower_at, upper_at, set_lower, set_upper}
use lib.Seq.{get_or-set_same, get_or-set_other}
use Rattle.lists.proofs.Tab.{length-tab, get_d-tab, tab-ext-0, set-tab}
use Rattle.layout.specs.Rows.{number_in, cell, constraint_at, bounds_at, box_of}

pub length-box : (n : ℕ) (lower upper : List ℤ) → length (box_of n lower upper) ≡ n
unfolding box_of
length-box n lower upper = length-tab (bounds_at lower upper) 0 n

pub length-coefficients : (n : ℕ) (rows : List ℤ) (start : ℕ) → length (constraint_at n rows start).coefficients ≡ n
unfolding constraint_at
length-coefficients n rows start = length-tab (cell rows start) 0 n

-- a row by itself is an inequality
pub row_plain : (n : ℕ) (rows : List ℤ) (start : ℕ) → (constraint_at n rows start).divisor ≡ pos 0
unfolding constraint_at
row_plain n rows start = refl

pub coefficient-at : (n : ℕ) (rows : List ℤ) (start i : ℕ) → i < n → coefficient_at (constraint_at n rows start) i ≡ cell rows start i
unfolding coefficient_at constraint_at
coefficient-at n rows start i h = get_d-tab (cell rows start) n i (pos 0) h

pub lower-at : (n : ℕ) (lower upper : List ℤ) (i : ℕ) → i < n → lower_at (box_of n lower upper) i ≡ number_in lower i
unfolding lower_at box_of bounds_at
lower-at n lower upper i h = ap (λ (b : Bounds). b.lower) (get_d-tab (bounds_at lower upper) n i no_bounds h)

pub upper-at : (n : ℕ) (lower upper : List ℤ) (i : ℕ) → i < n → upper_at (box_of n lower upper) i ≡ number_in upper i
unfolding upper_at box_of bounds_at
upper-at n lower upper i h = ap (λ (b : Bounds). b.upper) (get_d-tab (bounds_at lower upper) n i no_bounds h)

-- ---- two constraints are equal by their parts, and by the numbers of their rows
pub constraint-eq : {a b d : ℤ} {cs ds : List ℤ} → a ≡ b → cs ≡ ds →
    ◌≡◌ {A = Constraint} (record { constant = a; coefficients = cs; divisor = d }) (record { constant = b; coefficients = ds; divisor = d })
constraint-eq {d = d} p q = ap₂ (λ (a : ℤ) (cs : List ℤ). record { constant = a; coefficients = cs; divisor = d }) p q

pub row_same : (n : ℕ) (a b : List ℤ) (s t : ℕ) → ((k : ℕ) → k ≤ n → number_in a (s + k) ≡ number_in b (t + k)) → constraint_at n a s ≡ constraint_at n b t
unfolding constraint_at cell
row_same n a b s t e =
    constraint-eq (ap (number_in a) (omega arith) ∙ e 0 (omega arith) ∙ ap (number_in b) (omega arith))
    (tab-ext-0 (cell a s) (cell b t) n (λ i l. ap (number_in a) (omega arith) ∙ e (1 + i) (omega arith) ∙ ap (number_in b) (omega arith)))

-- ---- a bound stored at variable i
pub box-lower : (n : ℕ) (lower upper : List ℤ) (i : ℕ) (v : ℤ) → i < n → i < length lower → box_of n (set lower i v) upper ≡ set_lower i v (box_of n lower upper)
unfolding set_lower
box-lower n lower upper i v h k =
    rw (upper-at n lower upper i h)
    (unfold box_of in sym (set-tab (bounds_at lower upper) (bounds_at (set lower i v) upper) n i (record { lower = v; upper = number_in upper i })
    (unfold bounds_at number_in in ap (λ (z : ℤ). record { lower = z; upper = get_or upper i (pos 0) }) (get_or-set_same lower i v (pos 0) k))
    (λ j e. unfold bounds_at number_in in ap (λ (z : ℤ). record { lower = z; upper = get_or upper j (pos 0) }) (get_or-set_other lower i j v (pos 0) e))))

pub box-upper : (n : ℕ) (lower upper : List ℤ) (i : ℕ) (v : ℤ) → i < n → i < length upper → box_of n lower (set upper i v) ≡ set_upper i v (box_of n lower upper)
unfolding set_upper
box-upper n lower upper i v h k =
    rw (lower-at n lower upper i h)
    (unfold box_of in sym (set-tab (bounds_at lower upper) (bounds_at lower (set upper i v)) n i (record { lower = number_in lower i; upper = v })
    (unfold bounds_at number_in in ap (λ (z : ℤ). record { lower = get_or lower i (pos 0); upper = z }) (get_or-set_same upper i v (pos 0) k))
    (λ j e. unfold bounds_at number_in in ap (λ (z : ℤ). record { lower = get_or lower j (pos 0); upper = z }) (get_or-set_other upper i j v (pos 0) e))))
