-- Opening a file, and opening a problem in hand: the same search. In the words of the contracts of `read`, `write`, `check`, `open` and `open_problem`.
use Rattle.std.specs.Prelude.{ℕ, ◌≤◌, List, ◌≡◌, Result, Ok, Err, take, length}
use Rattle.model_files.specs.File.{read_file, file_length, write_file}
use Rattle.model_acceptance.specs.Acceptable.{problem_error}
use Rattle.fields.specs.Fields.{room, cells, divisor_room, zeros}
use Rattle.problem.specs.declared.Problem.{Problem}
use Rattle.problem.specs.declared.Refusal.{Refusal}
use Rattle.problem.specs.declared.Refusal.TheVariants.{SizeRange}
use Rattle.problem.specs.Answer.{number_of, written}
use Rattle.problem.specs.View.{problem_of, seen_read, reading_of}
use Rattle.state.specs.View.{view}
use Rattle.state.specs.declared.Search.{Search}
use Rattle.calls.specs.Calls.{file, value, Fine, OpensFrom}

-- what `check` says of a problem
abbrev pub Checks : Problem → Result (Unit {0}) Refusal → Type 0
Checks p c = number_of c ≡ problem_error (problem_of p)

-- both are opened, and no later call can tell their states apart
pub record SameSearch (o u : Result Search Refusal) : Type 0 where
  pub opened : Search
  pub again : Search
  pub first : o ≡ Ok opened
  pub second : u ≡ Ok again
  pub state : view opened ≡ view again

-- a problem of zeros, for a caller that keeps one where a file is refused
unfoldable pub empty : Problem
empty = record { n = 0; m = 0; budget = 0; lower = zeros room; upper = zeros room; constraints = zeros cells; divisors = zeros divisor_room; thresholds = zeros room }

-- both are refused, the second with 4
pub record BothRefused (e : Refusal) (o u : Result Search Refusal) : Type 0 where
  pub first : o ≡ Err e
  pub second : u ≡ Err SizeRange

pub record SameOpening : Type 0 where
  -- a file, and the problem that `read` gives for it; where it is refused, so is opening it, and opening a problem without variables
  pub read : (f : List ℕ) (p : Problem) → seen_read (Ok p) ≡ reading_of (read_file f) → (o u : Result Search Refusal) → OpensFrom (file f) o → OpensFrom (value p) u → SameSearch o u
  pub refused : (f : List ℕ) (e : Refusal) → seen_read (Err e) ≡ reading_of (read_file f) → (o u : Result Search Refusal) → OpensFrom (file f) o → OpensFrom (value empty) u → BothRefused e o u
  -- a problem that `write` takes, and the file that it writes
  pub rewritten : (p : Problem) (b s : List ℕ) → written (Ok tt) s ≡ write_file (problem_of p) b →
      (o u : Result Search Refusal) → OpensFrom (value p) o → OpensFrom (file (take (file_length (problem_of p)) s)) u → SameSearch o u
  -- what `check` finds no error in is acceptable: the claims about calls hold of it. `open_problem` says what `check` says, and so does `write` where the buffer
  -- is long enough
  pub fine : (p : Problem) → Checks p (Ok tt) → Fine (value p)
  pub checked : (p : Problem) (c : Result (Unit {0}) Refusal) → Checks p c → (o : Result Search Refusal) → OpensFrom (value p) o → number_of o ≡ number_of c
  pub taken : (p : Problem) (c : Result (Unit {0}) Refusal) → Checks p c → (b : List ℕ) → file_length (problem_of p) ≤ length b →
      (a : Result (Unit {0}) Refusal) (s : List ℕ) → written a s ≡ write_file (problem_of p) b → number_of a ≡ number_of c
