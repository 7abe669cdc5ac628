-- Demand 2's two round trips.
use Prim.Native.Nat.{ℕ, zero, suc, ◌*◌, ◌≤◌}
use mathlib.Core.Path.{◌≡◌, refl, sym, ap, ◌∙◌}
use mathlib.Core.List.{List, ◌++◌}
use lib.Dec.{T}
use lib.ListN.{take, drop, length}
use lib.Seq.{take_at}
use borrow.Author.Tests.{eq-eqb}
use Rattle.std.specs.Prelude.{Result, Ok, Err}
use Rattle.model_files.specs.Bytes.{Bytes}
use Rattle.model_files.specs.File.{Written, problem_in, read_error, read_file, file_of, file_length, write_error, written_by, write_file}
use Rattle.model_problems.specs.Lists.{all_of}
use Rattle.model_problems.specs.Problem.{variables, ok}
use Rattle.model_walk.specs.Validity.{constraint_shaped}
use Rattle.lists.proofs.All.{all-of}
use Rattle.lists.proofs.AllOf.{all_of-tab}
use Rattle.lists.proofs.Bools.{true_of, T_of}
use Rattle.lists.proofs.Tab.{length-tab}
use Rattle.format.proofs.AcceptedShape.{sizes}
use Rattle.format.proofs.BufferKept.{length-written}
use Rattle.format.proofs.Errors.{result_ok}
use Rattle.format.proofs.FileIsWritten.{read-then-written}
use Rattle.format.proofs.WrittenIsRead.{writable, written-is-read}
use Rattle.layout.proofs.Rows.{length-box}
use Rattle.layout.specs.Rows.{row_length, number_in, cell, divided_at, input_at, thresholds_of}
use Rattle.problem.specs.declared.Problem.{Problem}
use Rattle.problem.specs.declared.Refusal.{Refusal}
use Rattle.problem.specs.Answer.{number_of, seen_by, shown_by, written}
use Rattle.problem.specs.View.{problem_of, packed, seen_read, reading_of}
use Rattle.problem.proofs.Numbers.{taken, taken-by, reading-number}
use Rattle.problem.proofs.Views.{view-of-packed, view-of-accepted}
use Rattle.calls.specs.RoundTrips.{RoundTrips}

-- ---- a file that `read` accepts, written into a buffer with room for it, stands there as it was, and the bytes after it are kept
module _ (f : List ℕ) (p : Problem) (reads : seen_read (Ok p) ≡ reading_of (read_file f)) where
  pub no-error : read_error f ≡ 0
  unfolding number_of
  no-error = sym (reading-number f (Ok p) reads)

  pub problem-read : problem_of p ≡ problem_in f
  unfolding read_file seen_read seen_by reading_of shown_by
  problem-read =
      let e : ok p ≡ ok (packed (problem_in f)) = reads ∙ ap reading_of (result_ok (problem_in f) no-error) in
      let q : p ≡ packed (problem_in f) = cc in
      ap problem_of q ∙ view-of-accepted f no-error

  file-read-then-written : Bytes f → (b : List ℕ) → length f ≤ length b → (a : Result (Unit {0}) Refusal) (s : List ℕ) → written a s ≡ write_file (problem_of p) b →
      (a ≡ Ok tt) × (s ≡ f ++ drop (length f) b)
  unfolding written
  file-read-then-written y b l a s w =
      let e : written a s ≡ record { number = 0; buffer = f ++ drop (length f) b } = w ∙ rw problem-read (read-then-written f y no-error b l) in
      ((taken a (ap (λ (q : Written). q.number) e)).1, ap (λ (q : Written). q.buffer) e)

-- ---- a problem that `write` accepts, read from the bytes that were written, is the problem with zeros past its last variable and its last constraint
pub inputs-shaped : (p : Problem) → T (all_of (constraint_shaped (variables (problem_of p))) (problem_of p).constraints)
unfolding problem_of variables constraint_shaped input_at divided_at
inputs-shaped p =
    rw (length-box p.n p.lower p.upper)
    (T_of (all_of-tab (constraint_shaped p.n) (input_at p.n p.constraints p.divisors) 0 p.m ∙
    all-of (λ j. constraint_shaped p.n (input_at p.n p.constraints p.divisors j)) p.m
    (λ j l. eq-eqb _ _ (length-tab (cell p.constraints (row_length * j)) 0 p.n))))

thresholds-even : (p : Problem) → length (problem_of p).thresholds ≡ variables (problem_of p)
unfolding problem_of variables thresholds_of
thresholds-even p = length-tab (number_in p.thresholds) 0 p.n ∙ sym (length-box p.n p.lower p.upper)

module _ (p : Problem) (b s : List ℕ) (writes : written (Ok tt) s ≡ write_file (problem_of p) b) where
  number_is : (written_by (write_error (problem_of p) (length b)) (problem_of p) b).number ≡ 0
  unfolding write_file written number_of
  number_is = ap (λ (q : Written). q.number) (sym writes)

  no-error-by : (e : ℕ) → (written_by e (problem_of p) b).number ≡ 0 → e ≡ 0
  unfolding written_by
  no-error-by zero h = refl
  no-error-by (suc e) h = h

  pub writes-no-error : write_error (problem_of p) (length b) ≡ 0
  writes-no-error = no-error-by (write_error (problem_of p) (length b)) number_is

  bytes-are : s ≡ file_of (problem_of p) ++ drop (file_length (problem_of p)) b
  unfolding written write_file written_by
  bytes-are = ap (λ (q : Written). q.buffer) writes ∙ rw writes-no-error

  pub file-is : take (file_length (problem_of p)) s ≡ file_of (problem_of p)
  file-is =
      ap (take (file_length (problem_of p))) bytes-are ∙
      take_at (file_of (problem_of p)) (drop (file_length (problem_of p)) b) (file_length (problem_of p)) (length-written (problem_of p) (length b) writes-no-error)

  problem-written-then-read : (r : Result Problem Refusal) → seen_read r ≡ reading_of (read_file (take (file_length (problem_of p)) s)) → r ≡ Ok (packed (problem_of p))
  unfolding seen_read reading_of shown_by
  problem-written-then-read r e =
      let x = taken-by (λ (q : Problem). q) r (packed (problem_of p)) (e ∙ rw file-is (ap reading_of (written-is-read (problem_of p) (length b) (inputs-shaped p) writes-no-error))) in
      x.1 ∙ ap (λ (q : Problem). Ok q) x.2

  -- and those arrays say what the problem's said
  view-of-written : problem_of (packed (problem_of p)) ≡ problem_of p
  view-of-written =
      let z = sizes (problem_of p) (writable (problem_of p) (length b) writes-no-error).sized in
      view-of-packed (problem_of p) z.few-variables z.few-constraints (thresholds-even p)
      (true_of (all_of (constraint_shaped (variables (problem_of p))) (problem_of p).constraints) (inputs-shaped p))

pub round-trips : RoundTrips
round-trips = record { file = file-read-then-written; problem = problem-written-then-read; said = view-of-written }
