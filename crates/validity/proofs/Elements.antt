-- Every element of a list has a property, or what an option holds has it.
use Prim.Native.Nat.{ℕ, zero, suc, ◌<◌}
use native.Mathlib.Omega.{arith}
use mathlib.Core.Bool.{Bool, true, false, cond}
use mathlib.Core.List.{List, [], ◌∷◌, ◌++◌}
use mathlib.Core.Option.{Option, none, some}
use lib.Dec.{T}
use lib.ListN.{get_or, length, drop, get_elem?}
use Rattle.validity.proofs.States.{Every}

pub every-left : {A : Type 0} (p : A → Type 0) (xs ys : List A) → Every p (xs ++ ys) → Every p xs
every-left p [] ys h = tt
every-left p (x ∷ xs) ys h = (h.0, every-left p xs ys h.1)

pub every-right : {A : Type 0} (p : A → Type 0) (xs ys : List A) → Every p (xs ++ ys) → Every p ys
every-right p [] ys h = h
every-right p (x ∷ xs) ys h = every-right p xs ys h.1

pub every_append : {A : Type 0} (p : A → Type 0) (xs ys : List A) → Every p xs → Every p ys → Every p (xs ++ ys)
every_append p [] ys h g = g
every_append p (x ∷ xs) ys h g = (h.0, every_append p xs ys h.1 g)

pub every_drop : {A : Type 0} (p : A → Type 0) (k : ℕ) (xs : List A) → Every p xs → Every p (drop k xs)
every_drop p zero xs h = h
every_drop p (suc k) [] h = tt
every_drop p (suc k) (x ∷ xs) h = every_drop p k xs h.1

pub every_map : {A : Type 0} (p q : A → Type 0) (xs : List A) → ((x : A) → p x → q x) → Every p xs → Every q xs
every_map p q [] f h = tt
every_map p q (x ∷ xs) f h = (f x h.0, every_map p q xs f h.1)

pub every-get_d : {A : Type 0} (p : A → Type 0) (xs : List A) (k : ℕ) (d : A) → k < length xs → Every p xs → p (get_or xs k d)
every-get_d p [] k d l h = absurd (omega arith)
every-get_d p (x ∷ xs) zero d l h = h.0
every-get_d p (x ∷ xs) (suc k) d l h = every-get_d p xs k d (omega arith) h.1

-- an option that holds nothing, or an element with the property
abbrev pub Holds : {A : Type 0} → (A → Type 0) → Option A → Type 0
Holds p none = Unit {0}
Holds p (some x) = p x

pub holds-map : {A : Type 0} (p q : A → Type 0) (o : Option A) → ((x : A) → p x → q x) → Holds p o → Holds q o
holds-map p q none f h = tt
holds-map p q (some x) f h = f x h

pub holds-cond : {A : Type 0} (p : A → Type 0) (t : Bool) (x y : Option A) → (T t → Holds p x) → Holds p y → Holds p (cond t x y)
holds-cond p true x y h g = h tt
holds-cond p false x y h g = g

pub holds_elem : {A : Type 0} (p : A → Type 0) (xs : List A) (k : ℕ) → Every p xs → Holds p (get_elem? xs k)
holds_elem p [] k h = tt
holds_elem p (x ∷ xs) zero h = h.0
holds_elem p (x ∷ xs) (suc k) h = holds_elem p xs k h.1
