-- Results and document 01's numbers: a reading shows the number of the file's first error, and 0 is that of no refusal.
use Prim.Native.Nat.{ℕ, zero, suc}
use native.Mathlib.Omega.{arith}
use mathlib.Core.Bool.{cond}
use lib.Dec.{eqb}
use mathlib.Core.Path.{◌≡◌, refl, sym, ap, ◌∙◌}
use mathlib.Core.List.{List, [], ◌∷◌}
use Rattle.std.specs.Prelude.{Result, Ok, Err}
use Rattle.model_files.specs.File.{problem_in, read_error, read_file}
use Rattle.model_problems.specs.Problem as model
use Rattle.model_problems.specs.Problem.{ok, error, result_of}
use Rattle.problem.specs.declared.Refusal.{Refusal}
use Rattle.problem.specs.declared.Refusal.TheVariants.{Truncated, BadChecksum, BadMagic, SizeRange, DomainRange, CoefficientRange, NonzeroPadding, ShortBuffer, InvalidSearch, DivisorRange, ThresholdRange}
use Rattle.problem.specs.declared.Problem.{Problem}
use Rattle.problem.specs.Answer.{number, number_of, seen_by, shown_by}
use Rattle.problem.specs.View.{seen_read, reading_of}

pub numbered : (e : Refusal) → ¬ (number e ≡ 0)
unfolding number
numbered Truncated h = omega arith
numbered BadChecksum h = omega arith
numbered BadMagic h = omega arith
numbered SizeRange h = omega arith
numbered DomainRange h = omega arith
numbered CoefficientRange h = omega arith
numbered NonzeroPadding h = omega arith
numbered ShortBuffer h = omega arith
numbered InvalidSearch h = omega arith
numbered DivisorRange h = omega arith
numbered ThresholdRange h = omega arith

-- no two have one number
names : ℕ → List Refusal → Refusal
names k [] = Truncated
names k (e ∷ es) = cond (eqb (number e) k) e (names k es)

named : ℕ → Refusal
named k = names k (Truncated ∷ BadChecksum ∷ BadMagic ∷ SizeRange ∷ DomainRange ∷ CoefficientRange ∷ NonzeroPadding ∷ ShortBuffer ∷ InvalidSearch ∷ DivisorRange ∷ ThresholdRange ∷ [])

named-number : (e : Refusal) → named (number e) ≡ e
unfolding number named names
named-number Truncated = refl
named-number BadChecksum = refl
named-number BadMagic = refl
named-number SizeRange = refl
named-number DomainRange = refl
named-number CoefficientRange = refl
named-number NonzeroPadding = refl
named-number ShortBuffer = refl
named-number InvalidSearch = refl
named-number DivisorRange = refl
named-number ThresholdRange = refl

pub same-refusal : (d e : Refusal) → number d ≡ number e → d ≡ e
same-refusal d e h = sym (named-number d) ∙ ap named h ∙ named-number e

-- where the number is 0 nothing is refused
pub taken : {A : Type 0} (r : Result A Refusal) → number_of r ≡ 0 → (x : A) × (r ≡ Ok x)
unfolding number_of
taken (Ok x) h = (x, refl)
taken (Err e) h = absurd (numbered e h)

-- ---- a result, by document 01's answer
pub taken-by : {A B : Type 0} (f : A → B) (r : Result A Refusal) (y : B) → seen_by f r ≡ ok y → (x : A) × (r ≡ Ok x) × (f x ≡ y)
unfolding seen_by
taken-by f (Ok x) y h = (x, refl, cc)
taken-by f (Err e) y h = absurd (cc)

pub refused-by : {A B : Type 0} (f : A → B) (r : Result A Refusal) (e : Refusal) → seen_by f r ≡ error (number e) → r ≡ Err e
unfolding seen_by
refused-by f (Ok x) e h = absurd (cc)
refused-by f (Err d) e h = let n : number d ≡ number e = cc in ap (λ (x : Refusal). Err x) (same-refusal d e n)

-- the number of a result that shows what reading shows
number_by : (p : model.Problem) (k : ℕ) (r : Result Problem Refusal) → seen_read r ≡ reading_of (result_of k p) → number_of r ≡ k
unfolding seen_read seen_by reading_of shown_by result_of number_of
number_by p zero (Ok q) h = refl
number_by p zero (Err e) h = absurd (cc)
number_by p (suc k) (Ok q) h = absurd (cc)
number_by p (suc k) (Err e) h = cc

pub reading-number : (f : List ℕ) (r : Result Problem Refusal) → seen_read r ≡ reading_of (read_file f) → number_of r ≡ read_error f
unfolding read_file
reading-number f r h = number_by (problem_in f) (read_error f) r h
