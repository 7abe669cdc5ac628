-- The tests of a row: of the part of the array that holds it, its constant and then its coefficients.
use Prim.Native.Nat.{ℕ, suc, ◌+◌, ◌<◌}
use native.Mathlib.Omega.{arith}
use native.Mathlib.Numerals.{add-one}
use mathlib.Core.Bool.{Bool, true, ◌&&◌}
use mathlib.Core.List.{List, ◌∷◌}
use mathlib.Core.Path.{◌≡◌, refl, sym, ap, ap₂, ◌∙◌}
use lib.Dec.{eqb, eqb→eq, eqb_refl}
use lib.IntN.{ℤ, pos, negsuc}
use lib.ListN.{length, take, drop}
use mir.Syntax.{w64}
use mir.Val.{SFits, of_z}
use borrow.Author.Tests.{eqb-true}
use Rattle.std.specs.Cmp.Lexicographic.{pointwise}
use Rattle.std.specs.Ordering.{int_eq}
use Rattle.std.proofs.lemmas.Bool.Decides.{Decides-int_eq}
use Rattle.model_problems.specs.Ranges.{within, max_coefficient}
use Rattle.model_problems.specs.Lists.{tab, all, all_of, all_pairs}
use Rattle.model_problems.specs.Constraint.{in_range, equalℤ, equal}
use Rattle.integer.specs.Tests.{same}
use Rattle.lists.proofs.Bools.{true_of, T_of, clash, same_test}
use Rattle.lists.proofs.Tab.{tab-of-part, tab-shift}
use Rattle.lists.proofs.AllOf.{all_of-tab}
use Rattle.lists.proofs.Chains.{pairs-pointwise}
use Rattle.layout.specs.Rows.{number_in, cell, constraint_at}

pub row_part : (n : ℕ) (rows : List ℤ) (start c : ℕ) → start + n < length rows → c ≡ n + 1 → take c (drop start rows) ≡ number_in rows start ∷ tab (cell rows start) 0 n
unfolding tab cell number_in
row_part n rows start c h e =
    let shift = tab-shift (number_in rows) (cell rows start) (suc start) 0 n (λ k l. ap (number_in rows) (omega arith)) in
    rw e (sym (tab-of-part rows (pos 0) start (n + 1) (omega arith)) ∙ rw add-one (ap (λ (l : List ℤ). number_in rows start ∷ l) shift))

-- ---- the range
unfoldable pub small_at : List ℤ → ℕ → ℕ → Bool
small_at rows start i = within max_coefficient (cell rows start i)

pub range-tests : (n : ℕ) (rows : List ℤ) (start : ℕ) →
    in_range (constraint_at n rows start) ≡ (within max_coefficient (number_in rows start) && all (tab (small_at rows start) 0 n))
unfolding in_range constraint_at small_at
range-tests n rows start = rw (all_of-tab (within max_coefficient) (cell rows start) 0 n)

pub part-in-range : (n : ℕ) (rows : List ℤ) (start c : ℕ) → start + n < length rows → c ≡ n + 1 →
    all_of (within max_coefficient) (take c (drop start rows)) ≡ in_range (constraint_at n rows start)
unfolding in_range constraint_at all_of
part-in-range n rows start c h e = ap (all_of (within max_coefficient)) (row_part n rows start c h e)

-- ---- equality
equal-true : (a b : ℤ) → equalℤ a b ≡ true → a ≡ b
unfolding equalℤ
equal-true (pos a) (pos b) e = ap pos (eqb→eq a b (T_of e))
equal-true (pos a) (negsuc b) e = clash e refl
equal-true (negsuc a) (pos b) e = clash e refl
equal-true (negsuc a) (negsuc b) e = ap negsuc (eqb→eq a b (T_of e))

equal-refl : (a : ℤ) → equalℤ a a ≡ true
unfolding equalℤ
equal-refl (pos a) = true_of (eqb a a) (eqb_refl a)
equal-refl (negsuc a) = true_of (eqb a a) (eqb_refl a)

-- std's test of equal numbers is the model's
int_eq-equal : (a b : ℤ) → int_eq a b ≡ equalℤ a b
int_eq-equal a b =
    same_test (int_eq a b) (equalℤ a b) (λ e. rw ((Decides-int_eq a b).0 e) (equal-refl b)) (λ e. (Decides-int_eq a b).1 (equal-true a b e))

-- `==` at numbers compares their bits
pub equal-bits : {a b : ℤ} → SFits w64 a → SFits w64 b → eqb (of_z w64 a) (of_z w64 b) ≡ equalℤ a b
equal-bits {a} {b} f g =
    same_test (eqb (of_z w64 a) (of_z w64 b)) (equalℤ a b) (λ e. rw (same f g (eqb-true _ _ e)) (equal-refl b))
    (λ e. rw (equal-true a b e) (true_of (eqb (of_z w64 b) (of_z w64 b)) (eqb_refl (of_z w64 b))))

pub parts-equal : (n : ℕ) (a : List ℤ) (at s : ℕ) (b : List ℤ) (bt t c d : ℕ) → at + n < length a → bt + n < length b → s ≡ at → t ≡ bt → c ≡ n + 1 → d ≡ n + 1 →
    pointwise int_eq (take c (drop s a)) (take d (drop t b)) ≡ equal (constraint_at n a at) (constraint_at n b bt)
unfolding equal constraint_at all_pairs
parts-equal n a at s b bt t c d h k p q e f =
    rw (p, q) (pairs-pointwise int_eq equalℤ int_eq-equal _ _ ∙ ap₂ (all_pairs equalℤ) (row_part n a at c h e) (row_part n b bt d k f) ∙ rw (equal-refl (pos 0)))
