-- Writing, by the problem's number: an error leaves the buffer, and where there is none the file stands at its start.
use Prim.Native.Nat.{ℕ, zero, suc, ◌*◌, ◌/◌, ◌<◌, ◌≤◌}
use native.Mathlib.Omega.{arith}
use mathlib.Core.Bool.{cond}
use mathlib.Core.Path.{◌≡◌, refl, sym}
use mathlib.Core.List.{List, ◌++◌}
use lib.Dec.{eqb, eqb-suc-zero}
use lib.ListN.{drop, length}
use borrow.Author.Tests.{lt-leb, le-leb}
use Rattle.std.specs.Prelude.{Ok, Err}
use Rattle.model_files.specs.Bytes.{block_length}
use Rattle.model_files.specs.File.{Written, file_of, file_length, written_by, write_file}
use Rattle.model_acceptance.specs.Acceptable.{problem_error}
use Rattle.acceptance.proofs.Acceptance.{write-error, tested, sizes-of}
use Rattle.problem.specs.declared.Refusal.{Refusal}
use Rattle.problem.specs.declared.Refusal.TheVariants.{ShortBuffer}
use Rattle.problem.specs.declared.Problem.{Problem}
use Rattle.problem.specs.Answer.{number, number_of, written}
use Rattle.problem.specs.View.{problem_of}
use Rattle.problem.proofs.Numbers.{numbered}
use Rattle.problem.proofs.Checking.{variable-count, constraint-count}
use Rattle.file_blocks.specs.Writable.{Writable}

module _ (p : Problem) (b : List ℕ) where
  refused-by : (k e : ℕ) → ¬ (k ≡ 0) → ◌≡◌ {A = Written} (record { number = k; buffer = b }) (written_by (cond (eqb k 0) e k) (problem_of p) b)
  unfolding written_by
  refused-by zero e n = absurd (n refl)
  refused-by (suc k) e n = rw (eqb-suc-zero k) refl

  pub refused : (e : Refusal) → number_of {A = Unit {0}} (Err e) ≡ problem_error (problem_of p) → written (Err e) b ≡ write_file (problem_of p) b
  unfolding written write_file number_of
  refused e checked = rw (write-error (problem_of p) (length b), ← checked) (refused-by (number e) _ (numbered e))

  module _ (fine : number_of {A = Unit {0}} (Ok tt) ≡ problem_error (problem_of p)) where
    no-error : problem_error (problem_of p) ≡ 0
    unfolding number_of
    no-error = sym fine

    length-is : file_length (problem_of p) ≡ block_length * suc p.m
    unfolding file_length
    length-is = rw (constraint-count p)

    pub short-buffer : length b / block_length ≤ p.m → written (Err ShortBuffer) b ≡ write_file (problem_of p) b
    unfolding written number_of number write_file written_by
    short-buffer h = rw (write-error (problem_of p) (length b), no-error, length-is, lt-leb (block_length * suc p.m) (length b) (omega arith))

    pub done : (s : List ℕ) → p.m < length b / block_length → s ≡ file_of (problem_of p) ++ drop (file_length (problem_of p)) b → written (Ok tt) s ≡ write_file (problem_of p) b
    unfolding written number_of write_file written_by
    done s l e = rw (write-error (problem_of p) (length b), no-error, e, le-leb (file_length (problem_of p)) (length b) (omega (arith, length-is)))

-- and the problem can be written
pub writable : (p : Problem) → number_of {A = Unit {0}} (Ok tt) ≡ problem_error (problem_of p) → (space : ℕ) → p.m < space / block_length → Writable p space
unfolding number_of
writable p fine space l =
    let e = sym fine in
    let w = tested (problem_of p) e in
    let z = sizes-of (problem_of p) e in
    record {
      few-variables = omega (arith, z.few-variables, variable-count p);
      few-constraints = omega (arith, z.few-constraints, constraint-count p);
      bounded = w.bounded;
      threshold-range = w.threshold-range;
      coefficient-range = w.coefficient-range;
      divisor_range = w.divisor_range;
      long = omega arith;
    }

-- what the tests of `write` tell
pub ruleset told = (refused, short-buffer, done)
