-- A lent buffer, of which block `done` is handed on to be written, as it comes back.
use Prim.Native.Nat.{ℕ, ◌+◌, ◌*◌, ◌-◌, ◌≤◌}
use native.Mathlib.Omega.{arith}
use mathlib.Core.Bool.{Bool, true, false}
use mathlib.Core.Path.{◌≡◌, refl}
use mathlib.Core.List.{List}
use lib.ListN.{length, take, drop, length-drop}
use lib.Seq.{length-take-le}
use borrow.Rule.Slice.PartMut.{put_mid}
use Rattle.model_files.specs.Bytes.{block_length}
use Rattle.lists.proofs.Bools.{clash}
use Rattle.block.proofs.Placing.{part_placed}
use Rattle.record.specs.Written.{Emitted}

module _ (done : ℕ) (s : List ℕ) where
  pub left_alone : {keep : Bool} {bytes : List ℕ} → keep ≡ false → Emitted keep done bytes s s
  left_alone f = record { put = λ t. clash t f; left = λ e. refl }

  module _ (room : block_length * (done + 1) ≤ length s) where
    pub part_length : length (take (block_length * done + block_length - block_length * done) (drop (block_length * done) s)) ≡ block_length
    part_length =
        let e : 512 * done + 512 - 512 * done ≡ 512 = omega arith in
        rw e (length-take-le 512 (drop (512 * done) s) (omega (arith, length-drop (512 * done) s)))

    pub part-written : {keep : Bool} {bytes part : List ℕ} → keep ≡ true →
        length part ≡ length (take (block_length * done + block_length - block_length * done) (drop (block_length * done) s)) → part ≡ bytes →
        Emitted keep done bytes s (put_mid (block_length * done) (block_length * done + block_length - block_length * done) s part)
    part-written t l e =
        record {
          put = λ k. (part_placed s (512 * done) (512 * done + 512) (omega arith) (omega arith) l e).whole;
          left = λ f. clash t f;
        }
