-- Lists and options: what the definitions of document 01 share.
use Rattle.std.specs.Prelude.{ℕ, zero, suc, ◌+◌, Bool, true, false, ◌&&◌, ◌||◌, cond, List, [], ◌∷◌, ◌++◌}
use Rattle.std.proofs.Math.Option.{Option, none, some}

-- f i, f (i + 1), .., count of them
unfoldable pub tab : {A : Type 0} → (ℕ → A) → ℕ → ℕ → List A
tab f i zero = []
tab f i (suc count) = f i ∷ tab f (suc i) count

-- the lists f i, f (i + 1), .., count of them, one after the other
unfoldable pub parts : {A : Type 0} → (ℕ → List A) → ℕ → ℕ → List A
parts f i zero = []
parts f i (suc count) = f i ++ parts f (suc i) count

unfoldable pub sum : List ℕ → ℕ
sum [] = 0
sum (x ∷ xs) = x + sum xs

-- every test passes
unfoldable pub all : List Bool → Bool
all [] = true
all (t ∷ ts) = t && all ts

-- the test passes at every element
unfoldable pub all_of : {A : Type 0} → (A → Bool) → List A → Bool
all_of t [] = true
all_of t (x ∷ xs) = t x && all_of t xs

-- the test passes at some element
unfoldable pub any_of : {A : Type 0} → (A → Bool) → List A → Bool
any_of t [] = false
any_of t (x ∷ xs) = t x || any_of t xs

-- the elements at which the test passes
unfoldable pub filter : {A : Type 0} → (A → Bool) → List A → List A
filter t [] = []
filter t (x ∷ xs) = cond (t x) (x ∷ filter t xs) (filter t xs)

-- the lists are of one length, and the test passes at each place
unfoldable pub all_pairs : {A B : Type 0} → (A → B → Bool) → List A → List B → Bool
all_pairs t [] [] = true
all_pairs t [] (y ∷ ys) = false
all_pairs t (x ∷ xs) [] = false
all_pairs t (x ∷ xs) (y ∷ ys) = t x y && all_pairs t xs ys

-- the first, or where there is none the second
unfoldable pub or_else : {A : Type 0} → Option A → Option A → Option A
or_else none y = y
or_else (some x) y = some x

unfoldable pub with_default : {A : Type 0} → A → Option A → A
with_default d none = d
with_default d (some x) = x
