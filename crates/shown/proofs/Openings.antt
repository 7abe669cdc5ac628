-- What opening shows is document 01's: of a file, and of a problem in hand.
use Prim.Native.Nat.{ℕ, zero, suc}
use native.Mathlib.Omega.{arith}
use mathlib.Core.List.{List}
use mathlib.Core.Path.{◌≡◌, refl, sym, ap, ◌∙◌}
use Rattle.std.specs.Prelude.{Result, Ok, Err, IfOk}
use Rattle.model_files.specs.File.{problem_in, read_error, read_file}
use Rattle.model_problems.specs.Problem.{ok, result_of}
use Rattle.model_walk.specs.Search.{open_problem, opened_by, open_file}
use Rattle.model_acceptance.specs.Acceptable.{problem_error, open_given}
use Rattle.lists.proofs.Bools.{T_of}
use Rattle.acceptance.proofs.Acceptance.{tested, sizes-of}
use Rattle.problem.specs.declared.Problem.{Problem}
use Rattle.problem.specs.declared.Refusal.{Refusal}
use Rattle.problem.specs.Answer.{number, number_of, seen_by, shown_by}
use Rattle.problem.specs.View.{problem_of, packed, seen_read, reading_of}
use Rattle.problem.proofs.Checking.{variable-count, constraint-count}
use Rattle.problem.proofs.Numbers.{numbered}
use Rattle.problem.proofs.Views.{view-of-accepted}
use Rattle.opening.specs.Accepted.{Accepted}
use Rattle.opening.proofs.Accepted.{accepted}
use Rattle.state.specs.View.{view}
use Rattle.state.specs.declared.Search.{Search}
use Rattle.shown.specs.Opening.{found, seen_opened}

-- ---- what was found is refused, or opens
pub not_opened : (e : Refusal) → seen_opened (Err e) ≡ opened_by (found (Err e))
unfolding seen_opened seen_by opened_by found
not_opened e = refl

pub opened : (p : Problem) (s : Search) → view s ≡ open_problem (problem_of p) → seen_opened (Ok s) ≡ opened_by (found (Ok p))
unfolding seen_opened seen_by opened_by found
opened p s v = rw v

-- ---- a file that was read
module _ (f : List ℕ) where
  read-by : (k : ℕ) (r : Result Problem Refusal) → read_error f ≡ k → seen_read r ≡ reading_of (result_of k (problem_in f)) → found r ≡ result_of k (problem_in f)
  unfolding seen_read seen_by reading_of shown_by result_of found
  read-by zero (Ok p) z h = let q : p ≡ packed (problem_in f) = cc in ap ok (ap problem_of q ∙ view-of-accepted f z)
  read-by zero (Err e) z h = absurd (cc)
  read-by (suc k) (Ok p) z h = absurd (cc)
  read-by (suc k) (Err e) z h = cc

  pub file-opened : (r : Result Problem Refusal) → seen_read r ≡ reading_of (read_file f) → opened_by (found r) ≡ open_file f
  unfolding open_file read_file
  file-opened r h = ap opened_by (read-by (read_error f) r refl h)

  can-open-by : (k : ℕ) (r : Result Problem Refusal) → read_error f ≡ k → seen_read r ≡ reading_of (result_of k (problem_in f)) → IfOk r Accepted
  unfolding seen_read seen_by reading_of shown_by result_of
  can-open-by zero (Ok p) z h = let q : p ≡ packed (problem_in f) = cc in rw q (accepted f z)
  can-open-by zero (Err e) z h = tt
  can-open-by (suc k) (Ok p) z h = absurd (cc)
  can-open-by (suc k) (Err e) z h = tt

  pub can-open : (r : Result Problem Refusal) → seen_read r ≡ reading_of (read_file f) → IfOk r Accepted
  unfolding read_file
  can-open r h = can-open-by (read_error f) r refl h

-- ---- a problem that was checked
module _ (p : Problem) where
  pub can-begin : number_of {A = Unit {0}} (Ok tt) ≡ problem_error (problem_of p) → Accepted p
  unfolding number_of
  can-begin z =
      let n = sym z in
      let s = sizes-of (problem_of p) n in
      record {
        few-variables = omega (arith, s.few-variables, variable-count p);
        few-constraints = omega (arith, s.few-constraints, constraint-count p);
        coefficient-range = T_of (tested (problem_of p) n).coefficient-range;
      }

  pub problem-opened : number_of {A = Unit {0}} (Ok tt) ≡ problem_error (problem_of p) → opened_by (found (Ok p)) ≡ open_given (problem_of p)
  unfolding number_of open_given result_of found seen_by
  problem-opened z = rw (← z)

  refused-by : (k : ℕ) (e : Refusal) → number e ≡ k → seen_opened (Err e) ≡ opened_by (result_of k (problem_of p))
  unfolding seen_opened seen_by opened_by result_of
  refused-by zero e h = absurd (numbered e h)
  refused-by (suc k) e h = rw h

  pub problem-refused : (e : Refusal) → number_of {A = Unit {0}} (Err e) ≡ problem_error (problem_of p) → seen_opened (Err e) ≡ open_given (problem_of p)
  unfolding number_of open_given
  problem-refused e h = refused-by (problem_error (problem_of p)) e h
