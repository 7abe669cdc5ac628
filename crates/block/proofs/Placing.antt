-- Fields put one after the other: `then p q`, where p puts a and q puts b right after it, puts a ++ b. So a content a ++ (b ++ ..) is put by
-- `then p (then q ..)`, and one of a loop, parts f 0 n, by `none-placed` and `more-placed`.
use Rattle.std.proofs.Common.{◌≡◌, ℕ, zero, suc, ◌+◌, ◌-◌, ◌*◌, ◌/◌, ◌%◌, ◌^◌, ◌≤◌, List, [], ◌∷◌, ◌++◌, length, take, drop, w64, sym, refl, ap, ◌∙◌, append_assoc, append-nil, zero-add, arith, length-append, length-drop, take-append-drop, drop_of_length-le, length-take-le, take_all, drop-drop}
use Rattle.std.specs.Int.{to_le_bytes}
use lib.Seq.{drop-nil, take-append_seam, drop-append-add}
use borrow.Rule.Slice.PartMut.{put_mid, Post-is}
use Rattle.model_problems.specs.Lists.{parts}
use Rattle.model_files.specs.Bytes.{u16_bytes, u32_bytes}
use Rattle.lists.proofs.Parts.{parts-snoc}
use Rattle.block.specs.Placed.{Placed}

-- ---- one field, and the next
over : List ℕ → ℕ → List ℕ → List ℕ
over s i bytes = take i s ++ (bytes ++ drop (i + length bytes) s)

front : (s a b : List ℕ) → over (over s 0 a) (length a) b ≡ over s 0 (a ++ b)
unfolding over
front s a b =
    let z : 0 + length a ≡ length a = omega arith in
    let y : 0 + length (a ++ b) ≡ length a + length b = zero-add (length (a ++ b)) ∙ length-append a b in
    rw (z, y, take-append_seam a (drop (length a) s), drop-append-add a (drop (length a) s) (length b), drop-drop (length b) (length a) s, append_assoc)

after : (s : List ℕ) (i : ℕ) (a b : List ℕ) → over (over s i a) (i + length a) b ≡ over s i (a ++ b)
unfolding over
after s zero a b = ap (λ (n : ℕ). over (over s 0 a) n b) (zero-add (length a)) ∙ front s a b
after [] (suc n) a b =
    rw (
      drop-nil {A = ℕ} (suc n + length a),
      drop-nil {A = ℕ} (suc n + length (a ++ b)),
      append-nil a,
      take_all (suc n + length a) a (omega arith),
      drop_of_length-le a {i = suc n + length a + length b} (omega arith),
      append-nil b,
      append-nil (a ++ b),
    )
after (x ∷ s) (suc n) a b =
    let e : suc n + length a ≡ suc (n + length a) = omega arith in
    let f : suc n + length (a ++ b) ≡ suc (n + length (a ++ b)) = omega arith in
    let g : suc (n + length a) + length b ≡ suc (n + length a + length b) = omega arith in
    rw (e, f, g) (ap (λ (l : List ℕ). x ∷ l) (after s n a b))

is-over : {s t a : List ℕ} {i j : ℕ} → Placed s i j a t → t ≡ over s i a
unfolding over
is-over p = p.whole ∙ rw p.width

of-over : {s t a : List ℕ} {i j : ℕ} → i + length a ≡ j → t ≡ over s i a → Placed s i j a t
unfolding over
of-over w e = record { width = w; whole = e ∙ rw w }

pub then : {s t u a b : List ℕ} {i j k : ℕ} → Placed s i j a t → Placed t j k b u → Placed s i k (a ++ b) u
then {s} {t} {u} {a} {b} {i} {j} {k} p q =
    of-over (omega (arith, p.width, q.width, length-append a b)) (is-over q ∙ rw (is-over p, ← p.width) (after s i a b))

-- ---- fields in a loop: none, and one more
pub none-placed : (f : ℕ → List ℕ) (s : List ℕ) (i : ℕ) → Placed s i i (parts f 0 0) s
unfolding parts
none-placed f s i = record { width = omega arith; whole = sym (take-append-drop i s) }

pub more-placed : (f : ℕ → List ℕ) {s t u : List ℕ} {i j k : ℕ} (n : ℕ) → Placed s i j (parts f 0 n) t → Placed t j k (f n) u → Placed s i k (parts f 0 (n + 1)) u
more-placed f n p q = rw (parts-snoc f n) (then p q)

-- ---- a part of a longer list that is lent to be written, as it comes back
pub part_placed : {bytes part : List ℕ} (s : List ℕ) (i j : ℕ) → i ≤ j → j ≤ length s → length part ≡ length (take (j - i) (drop i s)) → part ≡ bytes →
    Placed s i j bytes (put_mid i (j - i) s part)
part_placed {bytes} {part} s i j h l k e =
    let n = length-take-le (j - i) (drop i s) (omega (arith, length-drop i s)) in
    record { width = omega (arith, ap length e, k, n); whole = rw (e, Post-is i j s h) }

-- ---- bytes that are copied to their place: the lowest ones of a number
pub bytes-placed : {s t put : List ℕ} {at n : ℕ} (bytes : List ℕ) → put ≡ bytes → length bytes ≡ n → Placed s at (at + length put) put t → Placed s at (at + n) bytes t
bytes-placed bytes e l p = rw (e, l) at p

pub length-u16 : (v : ℕ) → length (u16_bytes v) ≡ 2
unfolding u16_bytes
length-u16 v = refl

pub length-u32 : (v : ℕ) → length (u32_bytes v) ≡ 4
unfolding u32_bytes u16_bytes
length-u32 v = refl

pub low-u16 : (v : ℕ) → take 2 (to_le_bytes w64 v) ≡ u16_bytes v
unfolding u16_bytes
low-u16 v = refl

pub low-u32 : (v : ℕ) → take 4 (to_le_bytes w64 v) ≡ u32_bytes v
unfolding u32_bytes u16_bytes
low-u32 v =
    let a : v % 65536 % 256 ≡ v % 256 = omega arith in
    let b : v % 65536 / 256 % 256 ≡ v / 256 % 256 = omega arith in
    let d : v / 65536 / 256 % 256 ≡ v / 16777216 % 256 = omega arith in
    rw (a, b, d)

-- of a number and the same modulo 2^32
pub low-same : (v w k : ℕ) → v ≡ w + 2 ^ 32 * k → u32_bytes v ≡ u32_bytes w
unfolding u32_bytes u16_bytes
low-same v w k e =
    let a : v % 65536 % 256 ≡ w % 65536 % 256 = omega arith in
    let b : v % 65536 / 256 % 256 ≡ w % 65536 / 256 % 256 = omega arith in
    let c : v / 65536 % 256 ≡ w / 65536 % 256 = omega arith in
    let d : v / 65536 / 256 % 256 ≡ w / 65536 / 256 % 256 = omega arith in
    rw (a, b, c, d)
