-- Acceptable problems: the writer takes them and no others; their numbers are in range; the problem of an accepted file is one.
use Prim.Native.Nat.{ℕ, ◌≤◌}
use native.Mathlib.Omega.{arith}
use mathlib.Core.Bool.{Bool, true, false, cond}
use mathlib.Core.List.{List, [], ◌∷◌}
use mathlib.Core.Path.{◌≡◌, refl, ◌∙◌}
use lib.Dec.{T, eqb, leb, eqb→eq}
use lib.ListN.{length}
use borrow.Author.Tests.{le-leb}
use Rattle.model_problems.specs.Lists.{all_of}
use Rattle.model_problems.specs.Constraint.{Constraint}
use Rattle.model_problems.specs.Problem.{Problem, variables, sizes_in_range, domain_in_range, thresholds_in_range, constraints_in_range, divisors_in_range, first_error, ok, result_of}
use Rattle.model_files.specs.File.{problem_in, read_error, file_length, write_error}
use Rattle.model_walk.specs.Search.{open_problem, opened_by}
use Rattle.model_walk.specs.Validity.{constraint_shaped}
use Rattle.model_acceptance.specs.Acceptable.{problem_error, Shaped, Acceptable, open_given}
use Rattle.integer.specs.Tests.{and_left, and_right}
use Rattle.format.proofs.AcceptedShape.{Sizes, sizes, Tests, tests, problem-shaped}
use Rattle.format.proofs.WrittenIsRead.{Writable, writable}

-- ---- the writer's number: the problem's, or else 8 where the buffer is too short
number_by : (a b c d e f : Bool) →
    first_error ((4, a) ∷ (5, b) ∷ (13, c) ∷ (6, d) ∷ (10, e) ∷ (8, f) ∷ []) ≡
    cond (eqb (first_error ((4, a) ∷ (5, b) ∷ (13, c) ∷ (6, d) ∷ (10, e) ∷ [])) 0) (cond f 0 8) (first_error ((4, a) ∷ (5, b) ∷ (13, c) ∷ (6, d) ∷ (10, e) ∷ []))
unfolding first_error
number_by false b c d e f = refl
number_by true false c d e f = refl
number_by true true false d e f = refl
number_by true true true false e f = refl
number_by true true true true false f = refl
number_by true true true true true f = refl

pub write-error : (p : Problem) (room : ℕ) → write_error p room ≡ cond (eqb (problem_error p) 0) (cond (leb (file_length p) room) 0 8) (problem_error p)
unfolding write_error problem_error
write-error p room = number_by (sizes_in_range p) (domain_in_range p) (thresholds_in_range p) (constraints_in_range p) (divisors_in_range p) (leb (file_length p) room)

-- ---- what the tests say
module _ (p : Problem) (e : problem_error p ≡ 0) where
  pub takes : (room : ℕ) → file_length p ≤ room → write_error p room ≡ 0
  takes room l = write-error p room ∙ rw (e, le-leb (file_length p) room l)

  pub tested : Writable p (file_length p)
  tested = writable p (file_length p) (takes (file_length p) (omega arith))

  pub sizes-of : Sizes p
  sizes-of = sizes p tested.sized

-- and back
pub taken_fine : (p : Problem) (room : ℕ) → write_error p room ≡ 0 → problem_error p ≡ 0
unfolding problem_error first_error
taken_fine p room e = let w = writable p room e in rw (w.sized, w.bounded, w.threshold-range, w.coefficient-range, w.divisor_range)

pub opens-given : (p : Problem) → problem_error p ≡ 0 → open_given p ≡ ok (open_problem p)
unfolding open_given
opens-given p e = rw e (unfold result_of opened_by in refl)

-- ---- shapes
pub shaped_of : (n : ℕ) (ks : List Constraint) → T (all_of (constraint_shaped n) ks) → Shaped n ks
unfolding all_of constraint_shaped
shaped_of n [] t = tt
shaped_of n (k ∷ ks) t =
    (eqb→eq (length k.coefficients) n (and_left (constraint_shaped n k) (all_of (constraint_shaped n) ks) t), shaped_of n ks (and_right (constraint_shaped n k) (all_of (constraint_shaped n) ks) t))

-- ---- the problem of an accepted file
fine_of : (f : List ℕ) → Tests f → problem_error (problem_in f) ≡ 0
unfolding problem_error first_error
fine_of f t = rw (t.sized, t.bounded, t.threshold-range, t.coefficient-range, t.divisor_range)

pub file-acceptable : (f : List ℕ) → read_error f ≡ 0 → Acceptable (problem_in f)
file-acceptable f e = record { shaped = shaped_of (variables (problem_in f)) (problem_in f).constraints (problem-shaped f); fine = fine_of f (tests f e) }
