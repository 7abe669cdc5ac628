-- A block cleared, and sealed by its check once its content is in place.
use Rattle.std.proofs.Common.{◌≡◌, ℕ, ◌+◌, ◌-◌, ◌≤◌, List, ◌++◌, length, take, drop, replicate, sym, refl, ap, ◌∙◌, append_assoc, append-nil, arith, take-append-drop, drop_of_length-le, length-take-le, drop-drop, take_at}
use lib.ListN.{length-replicate, replicate-append-replicate}
use Rattle.model_files.specs.Bytes.{u32_bytes, block_length, check_offset, checksum, padded_to, padded, sealed}
use Rattle.format.proofs.ByteLaws.{place}
use Rattle.format.proofs.BlockLaws.{checksum-take, length-padded-to, length-padded}
use Rattle.block.specs.Placed.{Placed, cleared}

-- ---- a cleared block
-- a new array of zeros
pub zeros-cleared : replicate block_length 0 ≡ cleared
unfolding cleared
zeros-cleared = refl

zeros-part : (o a b c : ℕ) → take b (drop a (replicate (a + (b + c)) o)) ≡ replicate b o
zeros-part o a b c =
    rw (← replicate-append-replicate a (b + c) o, ← replicate-append-replicate b c o)
    (place (replicate a o) (replicate b o) (replicate c o) a b (length-replicate a o) (length-replicate b o))

cleared-part : (a b : ℕ) → a + b ≤ block_length → take b (drop a cleared) ≡ replicate b 0
unfolding cleared
cleared-part a b h =
    let z : block_length ≡ a + (b + (block_length - a - b)) = omega arith in
    ap (λ (n : ℕ). take b (drop a (replicate n 0))) z ∙ zeros-part 0 a b (block_length - a - b)

-- ---- a block with its check
padded-whole : (c : List ℕ) → length c ≡ check_offset → padded c ≡ c
unfolding padded padded_to
padded-whole c l = rw l (append-nil c)

pub sealed-by : {s t : List ℕ} (k r : ℕ) → length s ≡ block_length → r ≡ checksum k s → Placed s check_offset block_length (u32_bytes r) t → t ≡ sealed k (take check_offset s)
unfolding sealed
sealed-by {s} {t} k r l c p =
    let w = padded-whole (take 508 s) (length-take-le 508 s (omega arith)) in
    p.whole ∙ rw (drop_of_length-le s {i = 512} (omega arith), append-nil (u32_bytes r), w, checksum-take k s, c)

-- content put at the start of a cleared block stands there with the zeros after it, up to any place
pub padded-placed : {c s : List ℕ} {n : ℕ} (e : ℕ) → Placed cleared 0 n c s → n ≤ e → e ≤ block_length → Placed cleared 0 e (padded_to e c) s
unfolding padded_to
padded-placed {c} {s} {n} e p l h =
    let w : length c ≡ n = omega (arith, p.width) in
    let z : n + (e - n) ≡ e = omega arith in
    let gap : drop n cleared ≡ replicate (e - n) 0 ++ drop e cleared = sym (take-append-drop (e - n) (drop n cleared)) ∙ rw (cleared-part n (e - n) (omega arith), drop-drop (e - n) n cleared, z) in
    record { width = omega (arith, length-padded-to e c (omega arith)); whole = p.whole ∙ rw (gap, w, append_assoc c (replicate (e - n) 0) (drop e cleared)) }

padded-in : {c s : List ℕ} {n : ℕ} → Placed cleared 0 n c s → n ≤ check_offset → take check_offset s ≡ padded c
unfolding padded
padded-in {c} {s} {n} p l =
    let q = padded-placed 508 p l (omega arith) in
    ap (take 508) q.whole ∙ take_at (padded c) (drop 508 cleared) 508 (omega (arith, q.width))

-- a cleared block with its content in place, sealed
pub sealed-content : {z s t c : List ℕ} {n : ℕ} (k : ℕ) → t ≡ sealed k (take check_offset s) → Placed z 0 n c s → n ≤ check_offset → z ≡ cleared → t ≡ sealed k c
unfolding sealed
sealed-content {z} {s} {t} {c} {n} k f p l e =
    let q : Placed cleared 0 n c s = rw (← e) p in
    f ∙ rw (padded-in q l, padded-whole (padded c) (length-padded c (omega (arith, p.width))))
