-- The lent buffers: one block more, or the values of one solution more, after those that stand there.
use Prim.Native.Nat.{ℕ, suc, ◌+◌, ◌*◌}
use native.Mathlib.Omega.{arith}
use native.Mathlib.Nat.{mul-suc}
use native.Mathlib.Numerals.{add-one}
use mathlib.Core.Bool.{Bool}
use mathlib.Core.List.{List, [], ◌∷◌, ◌++◌, append_assoc, append-nil}
use mathlib.Core.Path.{◌≡◌, sym, ap, ◌∙◌}
use lib.ListN.{length, take, drop, length-append}
use lib.Seq.{take_at, drop-drop, drop-append-add}
use Rattle.model_files.specs.Bytes.{block_length}
use Rattle.model_walk.specs.Trace.{joined}
use Rattle.record.specs.Written.{Emitted}
use Rattle.turns.specs.Advancing.{Buffered}

-- ---- parts of w elements
joined-more : {A : Type 0} (bs : List (List A)) (b : List A) → joined (bs ++ (b ∷ [])) ≡ joined bs ++ b
unfolding joined
joined-more [] b = append-nil b
joined-more {A} (c ∷ bs) b = ap (λ (l : List A). c ++ l) (joined-more bs b) ∙ sym (append_assoc c (joined bs) b)

module _ {A : Type 0} (w : ℕ) (bs : List (List A)) (b : List A) where
  one_more : w * length bs + w ≡ w * length (bs ++ (b ∷ []))
  one_more =
      let e : length (bs ++ (b ∷ [])) ≡ suc (length bs) = omega (arith, length-append bs (b ∷ [])) in
      rw (e, mul-suc w (length bs))

  pub joined_length : (done : ℕ) → length (joined bs) ≡ w * done → length b ≡ w → length (joined (bs ++ (b ∷ []))) ≡ w * (done + 1)
  joined_length done e h = rw (joined-more bs b, length-append (joined bs) b, e, h, add-one, mul-suc w done)

  pub part-more : (old now next : List A) (done : ℕ) → length bs ≡ done → length (joined bs) ≡ w * done → now ≡ joined bs ++ drop (w * length bs) old →
      next ≡ take (w * done) now ++ (b ++ drop (w * done + w) now) → next ≡ joined (bs ++ (b ∷ [])) ++ drop (w * length (bs ++ (b ∷ []))) old
  part-more old now next done m l p q =
      let first = joined bs in
      let rest = drop (w * length bs) old in
      let t : take (w * done) now ≡ first = ap (take (w * done)) p ∙ take_at first rest (w * done) l in
      let d : drop (w * done + w) now ≡ drop (w * length (bs ++ (b ∷ []))) old =
      ap (drop (w * done + w)) p ∙ ap (λ (k : ℕ). drop (k + w) (first ++ rest)) (sym l) ∙ drop-append-add first rest w ∙ drop-drop w (w * length bs) old ∙ ap (λ (k : ℕ). drop k old) one_more in
      q ∙ rw (t, d, joined-more bs b) (sym (append_assoc first b (drop (w * length (bs ++ (b ∷ []))) old)))

pub buffer-more : (keep : Bool) (bs : List (List ℕ)) (b old now next : List ℕ) (done : ℕ) → length bs ≡ done → length (joined bs) ≡ block_length * done →
    Buffered keep bs old now → Emitted keep done b now next → Buffered keep (bs ++ (b ∷ [])) old next
buffer-more keep bs b old now next done m l f e =
    record { written = λ k. part-more block_length bs b old now next done m l (f.written k) (e.put k); untouched = λ k. e.left k ∙ f.untouched k }
