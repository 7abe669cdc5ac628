-- A row as a slice of an array of rows.
use Rattle.std.proofs.Common.{◌≡◌, ◌∙◌, ap, ℕ, ◌+◌, ◌<◌, ℤ, pos, List, arith}
use Rattle.std.specs.List.{between}
use Rattle.std.proofs.lemmas.List.Edits.{get_or-between}
use Rattle.model_problems.specs.Constraint.{Constraint}
use Rattle.layout.specs.Rows.{number_in, constraint_at, divided_at}
use Rattle.layout.proofs.Rows.{row_same}

pub number-between : (xs : List ℤ) (i j k : ℕ) → i + k < j → number_in (between i j xs) k ≡ number_in xs (i + k)
unfolding number_in
number-between xs i j k l = get_or-between xs i j k (pos 0) l

-- the row that starts at `start`, from a slice that holds its numbers
pub constraint-between : (n : ℕ) (xs : List ℤ) (start end : ℕ) → start + n < end → constraint_at n (between start end xs) 0 ≡ constraint_at n xs start
constraint-between n xs start end l =
    row_same n (between start end xs) xs 0 start (λ k m. ap (number_in (between start end xs)) (omega arith) ∙ number-between xs start end k (omega arith))

pub divided-between : (n : ℕ) (xs : List ℤ) (start end : ℕ) (q : ℤ) → start + n < end → divided_at n (between start end xs) 0 q ≡ divided_at n xs start q
unfolding divided_at
divided-between n xs start end q l =
    let with_divisor : Constraint → Constraint = λ k. record { constant = k.constant; coefficients = k.coefficients; divisor = q } in
    unfold constraint_at in ap with_divisor (constraint-between n xs start end l)
