-- Blocks with their check: what is sealed passes the tests, and what passes them is sealed.
use Prim.Native.Nat.{ℕ, suc, ◌+◌, ◌*◌, ◌%◌, ◌^◌, ◌-◌, ◌<◌, ◌≤◌}
use native.Mathlib.Omega.{arith}
use native.Mathlib.Nat.{mod-lt}
use mathlib.Core.Bool.{true, ◌&&◌}
use mathlib.Core.Path.{◌≡◌, refl, sym, ap, ap₂, ◌∙◌}
use mathlib.Core.List.{List, [], ◌∷◌, ◌++◌, append_assoc}
use borrow.Author.Tests.{eqb-true}
use lib.ListN.{take, drop, length, replicate, length-append, length-replicate, length-drop, take-append-drop}
use lib.Seq.{take-add, take_all, take_at, drop_at, take-take, drop-append_seam, length-take-le}
use Rattle.model_problems.specs.Lists.{tab, sum, all_of}
use Rattle.model_files.specs.Bytes.{Bytes, u32_at, u32_bytes, block_length, check_offset, block, word_at, checksum, is_zero, zero_between, zero_from, padded_to, padded, sealed}
use Rattle.lists.proofs.Bools.{and-true, and_both}
use Rattle.lists.proofs.Tab.{tab-ext-0}
use Rattle.lists.proofs.AllOf.{all_of-replicate}
use Rattle.format.proofs.ByteLaws.{bytes-append, bytes_take, bytes_drop, bytes-zeros, bytes-u32, length-u32, u32-take, u32-read, u32-written}

-- ---- a block of a list
pub bytes-block : (s : List ℕ) (k : ℕ) → Bytes s → Bytes (block s k)
unfolding block
bytes-block s k y = bytes_take 512 (drop (512 * k) s) (bytes_drop (512 * k) s y)

pub length-block : (s : List ℕ) (k : ℕ) → block_length * suc k ≤ length s → length (block s k) ≡ block_length
unfolding block
length-block s k l = length-take-le 512 (drop (512 * k) s) (omega (arith, length-drop (512 * k) s))

-- ---- the checksum is of 32 bits, and of the first 508 bytes
pub checksum-small : (k : ℕ) (b : List ℕ) → checksum k b < 2 ^ 32
unfolding checksum
checksum-small k b = mod-lt (sum (tab (word_at b) 0 127) + suc k) {m = 2 ^ 32} (omega arith)

pub checksum-take : (k : ℕ) (b : List ℕ) → checksum k (take check_offset b) ≡ checksum k b
unfolding checksum word_at
checksum-take k b =
    ap (λ (l : List ℕ). (sum l + suc k) % 2 ^ 32) (tab-ext-0 (word_at (take 508 b)) (word_at b) 127 (λ w l. u32-take 508 b (4 * w) (omega arith)))

-- ---- content padded to place e: its length, its bytes, and that it is zero after the content, whatever follows
pub length-padded-to : (e : ℕ) (c : List ℕ) → length c ≤ e → length (padded_to e c) ≡ e
unfolding padded_to
length-padded-to e c l = length-append c (replicate (e - length c) 0) ∙ omega (arith, length-replicate {A = ℕ} (e - length c) 0)

pub bytes-padded-to : (e : ℕ) (c : List ℕ) → Bytes c → Bytes (padded_to e c)
unfolding padded_to
bytes-padded-to e c y = bytes-append c (replicate (e - length c) 0) y (bytes-zeros (e - length c))

zeros-after : (e : ℕ) (c : List ℕ) → all_of is_zero (drop (length c) (padded_to e c)) ≡ true
unfolding padded_to is_zero
zeros-after e c = rw (drop-append_seam c (replicate (e - length c) 0)) (all_of-replicate is_zero (e - length c) 0 refl)

pub padded-zero : (e : ℕ) (c rest : List ℕ) → length c ≤ e → zero_between (length c) e (padded_to e c ++ rest) ≡ true
unfolding zero_between
padded-zero e c rest l = rw (take_at (padded_to e c) rest e (length-padded-to e c l)) (zeros-after e c)

-- ---- a sealed block: its length, its bytes, its content's place
pub length-padded : (c : List ℕ) → length c ≤ check_offset → length (padded c) ≡ check_offset
unfolding padded
length-padded c l = length-padded-to check_offset c l

pub length-sealed : (k : ℕ) (c : List ℕ) → length c ≤ check_offset → length (sealed k c) ≡ block_length
unfolding sealed
length-sealed k c l =
    length-append (padded c) (u32_bytes (checksum k (padded c))) ∙ omega (arith, length-padded c l, length-u32 (checksum k (padded c)))

pub bytes-sealed : (k : ℕ) (c : List ℕ) → Bytes c → Bytes (sealed k c)
unfolding sealed padded
bytes-sealed k c y =
    bytes-append (padded c) (u32_bytes (checksum k (padded c)))
    (bytes-padded-to check_offset c y)
    (bytes-u32 (checksum k (padded c)))

pub take-sealed : (k : ℕ) (c : List ℕ) → length c ≤ check_offset → take check_offset (sealed k c) ≡ padded c
unfolding sealed
take-sealed k c l = take_at (padded c) (u32_bytes (checksum k (padded c))) 508 (length-padded c l)

-- its check is right
pub sealed-check : (k : ℕ) (c : List ℕ) → length c ≤ check_offset → checksum k (sealed k c) ≡ u32_at (sealed k c) check_offset
unfolding sealed
sealed-check k c l =
    let w = checksum k (padded c) in
    let at-end : take 4 (drop 508 (sealed k c)) ≡ u32_bytes (checksum k (padded c)) =
    rw (drop_at (padded c) (u32_bytes w) 508 (length-padded c l)) (take_all 4 (u32_bytes w) (omega (arith, length-u32 w))) in
    sym (checksum-take k (sealed k c)) ∙ ap (checksum k) (take-sealed k c l) ∙ sym (u32-read (sealed k c) 508 w (checksum-small k (padded c)) at-end)

-- and it is zero after its content
pub sealed-zero : (k : ℕ) (c : List ℕ) → length c ≤ check_offset → zero_from (length c) (sealed k c) ≡ true
unfolding zero_from sealed padded
sealed-zero k c l = padded-zero check_offset c (u32_bytes (checksum k (padded c))) l

-- ---- a content of two fields, c and d, with zeros from c up to d's place e
-- what a sealed block has after its content, and after the first of its two fields
pub end : ℕ → List ℕ → List ℕ
end k c = replicate (check_offset - length c) 0 ++ u32_bytes (checksum k (padded c))

pub after : ℕ → ℕ → List ℕ → List ℕ → List ℕ
after k e c d = replicate (e - length c) 0 ++ (d ++ end k (padded_to e c ++ d))

pub length_two : (e : ℕ) (c d : List ℕ) (n : ℕ) → length c ≤ e → length d ≡ n → length (padded_to e c ++ d) ≡ e + n
length_two e c d n l h = length-append (padded_to e c) d ∙ omega (arith, length-padded-to e c l)

module _ (k e : ℕ) (c d : List ℕ) where
  pub first-stands : sealed k (padded_to e c ++ d) ≡ c ++ after k e c d
  unfolding sealed padded padded_to end after
  first-stands = simp append_assoc

  pub second-stands : sealed k (padded_to e c ++ d) ≡ padded_to e c ++ (d ++ end k (padded_to e c ++ d))
  unfolding sealed padded padded_to end
  second-stands = simp append_assoc

  pub two-zero : (i n : ℕ) → length c ≡ i → length d ≡ n → i ≤ e → e + n ≤ check_offset →
      (zero_between i e (sealed k (padded_to e c ++ d)) && zero_from (e + n) (sealed k (padded_to e c ++ d))) ≡ true
  two-zero i n a b l m =
      let whole = length_two e c d n (omega arith) b in
      let between : zero_between i e (sealed k (padded_to e c ++ d)) ≡ true = rw (second-stands, ← a) (padded-zero e c (d ++ end k (padded_to e c ++ d)) (omega arith)) in
      let last : zero_from (e + n) (sealed k (padded_to e c ++ d)) ≡ true = rw (← whole) (sealed-zero k (padded_to e c ++ d) (omega arith)) in
      and_both between last

-- ---- a block that is zero after its content, with the right check, is its content sealed
zeros-are : (s : List ℕ) → all_of is_zero s ≡ true → s ≡ replicate (length s) 0
unfolding all_of is_zero
zeros-are [] a = refl
zeros-are (b ∷ bs) a =
    let h = and-true (is_zero b) (all_of is_zero bs) a in
    ap₂ (λ (x : ℕ) (l : List ℕ). x ∷ l) (eqb-true b 0 h.0) (zeros-are bs h.1)

pub padded-of : (b : List ℕ) (i e : ℕ) → e ≤ length b → i ≤ e → zero_between i e b ≡ true → padded_to e (take i b) ≡ take e b
unfolding padded_to zero_between
padded-of b i e l h z =
    let li : length (take i b) ≡ i = length-take-le i b (omega arith) in
    let ld : length (drop i (take e b)) ≡ e - i = length-drop i (take e b) ∙ rw (length-take-le e b l) in
    let zeros : replicate (e - i) 0 ≡ drop i (take e b) = sym (zeros-are (drop i (take e b)) z ∙ ap (λ (n : ℕ). replicate n 0) ld) in
    rw (li, zeros, ← take-take i e b h) (take-append-drop i (take e b))

pub two-of : (b : List ℕ) (i e n : ℕ) → e + n ≤ length b → i ≤ e → zero_between i e b ≡ true → padded_to e (take i b) ++ take n (drop e b) ≡ take (e + n) b
two-of b i e n l h z = rw (padded-of b i e (omega arith) h z) (sym (take-add e n b))

pub sealed-of : (b : List ℕ) (i : ℕ) → length b ≡ block_length → i ≤ check_offset → zero_from i b ≡ true → (k : ℕ) → Bytes b → checksum k b ≡ u32_at b check_offset → sealed k (take i b) ≡ b
unfolding sealed padded zero_from
sealed-of b i l h z k y c =
    rw (padded-of b i check_offset (omega arith) h z, checksum-take k b, c, u32-written b y 508 (omega arith)) (sym (take-add 508 4 b) ∙ take_all 512 b (omega arith))
