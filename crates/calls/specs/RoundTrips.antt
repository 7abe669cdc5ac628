-- Demand 2's two round trips, in the words of the contracts of `read` and `write`. What `read` says of a file f is `seen_read r ≡ reading_of (read_file f)`;
-- what `write` says is `written a s ≡ write_file (problem_of p) b`, with the result a, and the buffer's bytes b before and s after the call.
use Rattle.std.specs.Prelude.{ℕ, ◌≤◌, List, ◌++◌, ◌≡◌, Result, Ok, take, drop, length}
use Rattle.model_files.specs.Bytes.{Bytes}
use Rattle.model_files.specs.File.{read_file, file_length, write_file}
use Rattle.problem.specs.declared.Problem.{Problem}
use Rattle.problem.specs.declared.Refusal.{Refusal}
use Rattle.problem.specs.Answer.{written}
use Rattle.problem.specs.View.{problem_of, packed, seen_read, reading_of}

pub record RoundTrips : Type 0 where
  -- a file that `read` accepts, written into a buffer with room for it, stands there as it was, and the bytes after it are kept
  pub file : (f : List ℕ) (p : Problem) → seen_read (Ok p) ≡ reading_of (read_file f) → Bytes f → (b : List ℕ) → length f ≤ length b →
      (a : Result (Unit {0}) Refusal) (s : List ℕ) → written a s ≡ write_file (problem_of p) b → (a ≡ Ok tt) × (s ≡ f ++ drop (length f) b)
  -- a problem that `write` accepts, read from the bytes that were written, is the problem with zeros past its last variable and its last constraint
  pub problem : (p : Problem) (b s : List ℕ) → written (Ok tt) s ≡ write_file (problem_of p) b →
      (r : Result Problem Refusal) → seen_read r ≡ reading_of (read_file (take (file_length (problem_of p)) s)) → r ≡ Ok (packed (problem_of p))
  -- and those arrays say what the problem's said
  pub said : (p : Problem) (b s : List ℕ) → written (Ok tt) s ≡ write_file (problem_of p) b → problem_of (packed (problem_of p)) ≡ problem_of p
