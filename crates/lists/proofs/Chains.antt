-- What `all` and `any` answer, over a range and over a slice, and `==` of slices, in the model's tests of lists.
use Prim.Native.Nat.{ℕ, zero, suc}
use native.Mathlib.Omega.{arith}
use native.Mathlib.Numerals.{add-one}
use mathlib.Core.Bool.{Bool, ◌&&◌, ◌||◌}
use mathlib.Core.List.{List, [], ◌∷◌}
use mathlib.Core.Path.{◌≡◌, refl, ap, ap₂, ◌∙◌}
use denote.Param.Members.{Mut}
use denote.Ref.{Bor}
use Rattle.std.specs.Fn.{Called}
use Rattle.std.specs.Iterator.{ChecksAll, ChecksAny}
use Rattle.std.specs.List.{range_with_len, list_all, list_any}
use Rattle.std.specs.Cmp.Lexicographic.{pointwise}
use Rattle.std.specs.Slice.Iter.{iter_rest}
use Rattle.std.specs.declared.ops.Range.{Range}
use Rattle.std.proofs.iter.Yields.{fronts, nat_range_steps}
use Rattle.std.proofs.lemmas.Iterator.{YieldsList-from_range, YieldsList-from_slice}
use Rattle.std.proofs.lemmas.Iterator.Search.{all_from_yields_List, any_from_yields_List}
use Rattle.model_problems.specs.Lists.{tab, all_of, any_of, all_pairs}

-- ---- std's tests of a list
all-list : {A : Type 0} (t : A → Bool) (xs : List A) → list_all t xs ≡ all_of t xs
unfolding all_of
all-list t [] = refl
all-list t (x ∷ xs) = ap (λ (b : Bool). t x && b) (all-list t xs)

all-range : {A : Type 0} (t : A → Bool) (f : ℕ → A) (i n : ℕ) → list_all (λ k. t (f k)) (range_with_len i n) ≡ all_of t (tab f i n)
unfolding all_of tab
all-range t f i zero = refl
all-range t f i (suc n) = rw add-one (ap (λ (b : Bool). t (f i) && b) (all-range t f (suc i) n))

pairs-range : {A B : Type 0} (t : A → B → Bool) (f : ℕ → A) (g : ℕ → B) (i n : ℕ) → list_all (λ k. t (f k) (g k)) (range_with_len i n) ≡ all_pairs t (tab f i n) (tab g i n)
unfolding all_pairs tab
pairs-range t f g i zero = refl
pairs-range t f g i (suc n) = rw add-one (ap (λ (b : Bool). t (f i) (g i) && b) (pairs-range t f g (suc i) n))

any-range : {A : Type 0} (t : A → Bool) (f : ℕ → A) (i n : ℕ) → list_any (λ k. t (f k)) (range_with_len i n) ≡ any_of t (tab f i n)
unfolding any_of tab
any-range t f i zero = refl
any-range t f i (suc n) = rw add-one (ap (λ (b : Bool). t (f i) || b) (any-range t f (suc i) n))

-- ---- `(0..n).all(..)` and `(0..n).any(..)`, where the closure computes a test
module _ {F : Type 0} {g : Mut F (ℕ × Unit {0}) Bool} {s u : Range ℕ} {p : F} {r : Bool} (n : ℕ) where
  pub every : {A : Type 0} (t : A → Bool) (f : ℕ → A) → ChecksAll nat_range_steps g s p r u → s ≡ record { start = 0; end = n } →
      ((k : ℕ) (b : Bool) (q : F) → Called g p (k, tt) b q → (q ≡ p) × (b ≡ t (f k))) → r ≡ all_of t (tab f 0 n)
  every t f ran e h = all_from_yields_List _ _ _ _ ran (YieldsList-from_range 0 n n e (omega arith)) h ∙ all-range t f 0 n

  pub every_pair : {A B : Type 0} (t : A → B → Bool) (f : ℕ → A) (h : ℕ → B) → ChecksAll nat_range_steps g s p r u → s ≡ record { start = 0; end = n } →
      ((k : ℕ) (b : Bool) (q : F) → Called g p (k, tt) b q → (q ≡ p) × (b ≡ t (f k) (h k))) → r ≡ all_pairs t (tab f 0 n) (tab h 0 n)
  every_pair t f h ran e k = all_from_yields_List _ _ _ _ ran (YieldsList-from_range 0 n n e (omega arith)) k ∙ pairs-range t f h 0 n

  pub some : {A : Type 0} (t : A → Bool) (f : ℕ → A) → ChecksAny nat_range_steps g s p r u → s ≡ record { start = 0; end = n } →
      ((k : ℕ) (b : Bool) (q : F) → Called g p (k, tt) b q → (q ≡ p) × (b ≡ t (f k))) → r ≡ any_of t (tab f 0 n)
  some t f ran e h = any_from_yields_List _ _ _ _ ran (YieldsList-from_range 0 n n e (omega arith)) h ∙ any-range t f 0 n

-- ---- `xs.iter().all(..)`
pub each : {A F : Type 0} {g : Mut F (Bor A × Unit {0}) Bool} {s u : _} {p : F} {r : Bool} (t : A → Bool) (xs : List A) → ChecksAll fronts g s p r u → iter_rest s ≡ xs →
    ((x : Bor A) (b : Bool) (q : F) → Called g p (x, tt) b q → (q ≡ p) × (b ≡ t x.now)) → r ≡ all_of t xs
each t xs ran e h = all_from_yields_List t _ _ _ ran (YieldsList-from_slice xs e) h ∙ all-list t xs

-- ---- `==`
pub pairs-pointwise : {A B : Type 0} (t u : A → B → Bool) → ((x : A) (y : B) → t x y ≡ u x y) → (xs : List A) (ys : List B) → pointwise t xs ys ≡ all_pairs u xs ys
unfolding all_pairs
pairs-pointwise t u h [] [] = refl
pairs-pointwise t u h [] (y ∷ ys) = refl
pairs-pointwise t u h (x ∷ xs) [] = refl
pairs-pointwise t u h (x ∷ xs) (y ∷ ys) = ap₂ (λ (a b : Bool). a && b) (h x y) (pairs-pointwise t u h xs ys)
