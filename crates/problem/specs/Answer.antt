-- Document 01's table of errors with document 02's, the number of each refusal; and what a result says of it.
use Rattle.std.specs.Prelude.{ℕ, List, Result, Ok, Err}
use Rattle.model_problems.specs.Problem as model
use Rattle.model_files.specs.File.{Written}
use Rattle.problem.specs.declared.Refusal.{Refusal}
use Rattle.problem.specs.declared.Refusal.TheVariants.{Truncated, BadChecksum, BadMagic, SizeRange, DomainRange, CoefficientRange, NonzeroPadding, ShortBuffer, InvalidSearch, DivisorRange, ThresholdRange}

unfoldable pub number : Refusal → ℕ
number Truncated = 1
number BadChecksum = 2
number BadMagic = 3
number SizeRange = 4
number DomainRange = 5
number CoefficientRange = 6
number NonzeroPadding = 7
number ShortBuffer = 8
number InvalidSearch = 9
number DivisorRange = 10
number ThresholdRange = 13

-- a result's number: 0 where nothing is refused
unfoldable pub number_of : {A : Type 0} → Result A Refusal → ℕ
number_of (Ok x) = 0
number_of (Err e) = number e

-- a result as document 01's answer: the value, as f reads it, or the refusal's number alone
unfoldable pub seen_by : {A B : Type 0} → (A → B) → Result A Refusal → model.Result B
seen_by f (Ok x) = model.ok (f x)
seen_by f (Err e) = model.error (number e)

-- and what document 01's answer shows
unfoldable pub shown_by : {A B : Type 0} → (A → B) → model.Result A → model.Result B
shown_by f (model.ok x) = model.ok (f x)
shown_by f (model.error e) = model.error e

-- what writing shows: its result's number, and the lent buffer's bytes
unfoldable pub written : Result (Unit {0}) Refusal → List ℕ → Written
written r buffer = record { number = number_of r; buffer = buffer }
