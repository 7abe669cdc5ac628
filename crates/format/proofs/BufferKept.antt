-- The lent buffer: whatever the answer, its length and its bytes after the file are as before. Where the file is written it has file_length p bytes.
use Prim.Native.Nat.{ℕ, zero, suc}
use native.Mathlib.Omega.{arith}
use mathlib.Core.Path.{◌≡◌, refl, ◌∙◌}
use mathlib.Core.List.{List}
use lib.ListN.{drop, length, length-append, length-drop}
use lib.Seq.{drop_at}
use Rattle.model_problems.specs.Problem.{Problem}
use Rattle.model_files.specs.File.{file_of, file_length, write_error, written_by, write_file}
use Rattle.format.proofs.AcceptedShape.{sizes}
use Rattle.format.proofs.FileShape.{length-file}
use Rattle.format.proofs.WrittenIsRead.{writable}

pub length-written : (p : Problem) (room : ℕ) → write_error p room ≡ 0 → length (file_of p) ≡ file_length p
length-written p room e = length-file p (sizes p (writable p room e).sized).few-variables

module _ (p : Problem) (buffer : List ℕ) where
  kept : (n : ℕ) → write_error p (length buffer) ≡ n → (length (written_by n p buffer).buffer ≡ length buffer) × (drop (file_length p) (written_by n p buffer).buffer ≡ drop (file_length p) buffer)
  unfolding written_by
  kept zero e =
      let l = length-written p (length buffer) e in
      let rest = drop (file_length p) buffer in
      (length-append (file_of p) rest ∙ omega (arith, length-drop (file_length p) buffer, (writable p (length buffer) e).fits), drop_at (file_of p) rest (file_length p) l)
  kept (suc n) e = (refl, refl)

  pub length-kept : length (write_file p buffer).buffer ≡ length buffer
  unfolding write_file
  length-kept = (kept (write_error p (length buffer)) refl).0

  pub bytes-after-kept : drop (file_length p) (write_file p buffer).buffer ≡ drop (file_length p) buffer
  unfolding write_file
  bytes-after-kept = (kept (write_error p (length buffer)) refl).1
