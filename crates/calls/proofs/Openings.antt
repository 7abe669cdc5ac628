-- Opening a file and opening a problem in hand give the same search.
use Prim.Native.Nat.{ℕ, zero, suc, ◌≤◌}
use mathlib.Core.Bool.{cond}
use mathlib.Core.List.{List}
use mathlib.Core.Path.{◌≡◌, refl, sym, ap, ◌∙◌}
use lib.Dec.{eqb, eqb-suc-zero}
use lib.ListN.{take, length}
use borrow.Author.Tests.{le-leb}
use Rattle.std.specs.Prelude.{Result, Ok, Err}
use Rattle.model_problems.specs.Lists.{all, tab}
use Rattle.model_problems.specs.Problem as model
use Rattle.model_problems.specs.Problem.{ok, error, result_of}
use Rattle.model_files.specs.File.{Written, problem_in, read_error, read_file, file_length, write_error, written_by, write_file}
use Rattle.model_walk.specs.Search as walk
use Rattle.model_walk.specs.Search.{open_problem, opened_by, open_file}
use Rattle.model_acceptance.specs.Acceptable.{problem_error, open_given}
use Rattle.acceptance.proofs.Acceptance.{write-error, taken_fine, opens-given, shaped_of, file-acceptable}
use Rattle.validity.proofs.Steps.{impossible}
use Rattle.format.proofs.WrittenIsRead.{written-is-read}
use Rattle.problem.specs.declared.Problem.{Problem}
use Rattle.problem.specs.declared.Refusal.{Refusal}
use Rattle.problem.specs.declared.Refusal.TheVariants.{SizeRange}
use Rattle.problem.specs.Answer.{number, number_of, seen_by, written}
use Rattle.problem.specs.View.{problem_of, seen_read, reading_of}
use Rattle.problem.proofs.Numbers.{numbered, same-refusal, reading-number}
use Rattle.layout.specs.Rows.{box_of}
use Rattle.state.specs.declared.Search.{Search}
use Rattle.shown.specs.Opening.{seen_opened}
use Rattle.calls.specs.Calls.{file, value, Fine, OpensFrom}
use Rattle.calls.specs.Openings.{empty, Checks, SameSearch, BothRefused, SameOpening}
use Rattle.calls.proofs.RoundTrips.{no-error, problem-read, inputs-shaped, writes-no-error, file-is}
use Rattle.calls.proofs.Demand.{opened-as}

-- ---- what an opening says, by the number of what was opened
same-search : (o u : Result Search Refusal) (m : walk.Search) → seen_opened o ≡ ok m → seen_opened u ≡ ok m → SameSearch o u
same-search o u m e d =
    let x = opened-as o m e in
    let y = opened-as u m d in
    record { opened = x.state; again = y.state; first = x.done; second = y.done; state = x.start ∙ sym y.start }

numbered-by : (o : Result Search Refusal) (k : ℕ) (p : model.Problem) → seen_opened o ≡ opened_by (result_of k p) → number_of o ≡ k
unfolding seen_opened seen_by result_of opened_by number_of
numbered-by (Ok s) zero p e = refl
numbered-by (Err d) zero p e = impossible (cc)
numbered-by (Ok s) (suc k) p e = impossible (cc)
numbered-by (Err d) (suc k) p e = cc

-- a refusal is known by its number
refused-as : (o : Result Search Refusal) (e : Refusal) → number_of o ≡ number e → o ≡ Err e
unfolding number_of
refused-as (Ok s) e h = absurd (numbered e (sym h))
refused-as (Err d) e h = ap (λ (x : Refusal). Err x) (same-refusal d e h)

-- ---- a file, and what `read` gives for it
read-opened : (f : List ℕ) (p : Problem) → seen_read (Ok p) ≡ reading_of (read_file f) → (o u : Result Search Refusal) → OpensFrom (file f) o → OpensFrom (value p) u → SameSearch o u
unfolding open_file read_file
read-opened f p reads o u h g =
    let z = no-error f p reads in
    let q = problem_in f in
    same-search o u (open_problem q) (h ∙ rw z (unfold result_of opened_by in refl)) (g ∙ rw (problem-read f p reads) (opens-given q (file-acceptable f z).fine))

empty-error : problem_error (problem_of empty) ≡ number SizeRange
unfolding problem_error problem_of empty model.first_error model.sizes_in_range model.variables box_of all tab number
empty-error = refl

read-refused : (f : List ℕ) (e : Refusal) → seen_read (Err e) ≡ reading_of (read_file f) → (o u : Result Search Refusal) → OpensFrom (file f) o → OpensFrom (value empty) u → BothRefused e o u
unfolding open_file read_file open_given
read-refused f e reads o u h g =
    let n : number e ≡ read_error f = unfold number_of in reading-number f (Err e) reads in
    record {
      first = refused-as o e (numbered-by o (read_error f) (problem_in f) h ∙ sym n);
      second = refused-as u SizeRange (numbered-by u (problem_error (problem_of empty)) (problem_of empty) g ∙ empty-error);
    }

-- ---- a problem, and the file that `write` writes of it
rewritten-opened : (p : Problem) (b s : List ℕ) → written (Ok tt) s ≡ write_file (problem_of p) b →
    (o u : Result Search Refusal) → OpensFrom (value p) o → OpensFrom (file (take (file_length (problem_of p)) s)) u → SameSearch o u
unfolding open_file
rewritten-opened p b s writes o u h g =
    let z = writes-no-error p b s writes in
    let w = problem_of p in
    same-search o u (open_problem w) (h ∙ opens-given w (taken_fine w (length b) z))
    (g ∙ rw (file-is p b s writes, written-is-read w (length b) (inputs-shaped p) z) (unfold opened_by in refl))

-- the number that is written
module _ (p : Problem) (b : List ℕ) where
  written-by : (e : ℕ) → (written_by e (problem_of p) b).number ≡ e
  unfolding written_by
  written-by zero = refl
  written-by (suc e) = refl

  same_by : (e : ℕ) → cond (eqb e 0) 0 e ≡ e
  same_by zero = refl
  same_by (suc e) = rw (eqb-suc-zero e)

  written-checked : (c : Result (Unit {0}) Refusal) → Checks p c → file_length (problem_of p) ≤ length b →
      (a : Result (Unit {0}) Refusal) (s : List ℕ) → written a s ≡ write_file (problem_of p) b → number_of a ≡ number_of c
  unfolding written write_file
  written-checked c k l a s writes =
      ap (λ (q : Written). q.number) writes ∙ written-by (write_error (problem_of p) (length b)) ∙ write-error (problem_of p) (length b) ∙
      rw (le-leb (file_length (problem_of p)) (length b) l) (same_by (problem_error (problem_of p))) ∙ sym k

-- what `check` finds no error in
checked-fine : (p : Problem) → Checks p (Ok tt) → Fine (value p)
unfolding number_of
checked-fine p k = record { shaped = shaped_of (model.variables (problem_of p)) (problem_of p).constraints (inputs-shaped p); fine = sym k }

opened-checked : (p : Problem) (c : Result (Unit {0}) Refusal) → Checks p c → (o : Result Search Refusal) → OpensFrom (value p) o → number_of o ≡ number_of c
unfolding open_given
opened-checked p c k o h = numbered-by o (problem_error (problem_of p)) (problem_of p) h ∙ sym k

pub same-opening : SameOpening
same-opening =
    record {
      read = read-opened;
      refused = read-refused;
      rewritten = rewritten-opened;
      fine = checked-fine;
      checked = opened-checked;
      taken = λ p c k b l a s w. written-checked p b c k l a s w;
    }
