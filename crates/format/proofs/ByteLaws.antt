-- Numbers to bytes and back.
use Prim.Native.Nat.{ℕ, zero, suc, ◌+◌, ◌*◌, ◌/◌, ◌%◌, ◌^◌, ◌-◌, ◌<◌, ◌≤◌}
use native.Mathlib.Omega.{arith}
use native.Mathlib.Numerals.{add-one}
use native.Mathlib.Nat.{add-mul-mod_self_left, add-mul-div_left, mod-eq_of_lt, div-eq_of_lt, mod-lt, zero-add}
use mathlib.Core.Bool.{Bool, true, false}
use mathlib.Core.Path.{◌≡◌, refl, sym, ap, ◌∙◌}
use mathlib.Core.List.{List, [], ◌∷◌, ◌++◌}
use lib.IntN.{ℤ, pos, negsuc}
use lib.Dec.{ltb}
use lib.Signed.{mag}
use borrow.Author.Tests.{ltb-true, ltb-false, lt-ltb, le-ltb}
use lib.ListN.{get_or, take, drop, length, replicate}
use lib.Seq.{get_or-take, get_or-drop, drop-cons, take-add, take-take, take_at, drop_at, drop-drop}
use Rattle.model_problems.specs.Lists.{parts}
use Rattle.model_files.specs.Bytes.{Bytes, u16_at, u32_at, signed, i32_at, u16_bytes, u32_bytes, unsigned, i32_bytes}

-- ---- bytes
pub bytes-at : (s : List ℕ) → Bytes s → (i : ℕ) → get_or s i 0 < 256
bytes-at [] y i = omega arith
bytes-at (b ∷ bs) y zero = y.0
bytes-at (b ∷ bs) y (suc i) = bytes-at bs y.1 i

pub bytes_of : (s : List ℕ) → ((i : ℕ) → i < length s → get_or s i 0 < 256) → Bytes s
bytes_of [] h = tt
bytes_of (b ∷ bs) h = (h 0 (omega arith), bytes_of bs (λ i l. h (suc i) (omega arith)))

pub bytes-append : (s t : List ℕ) → Bytes s → Bytes t → Bytes (s ++ t)
bytes-append [] t y z = z
bytes-append (b ∷ bs) t y z = (y.0, bytes-append bs t y.1 z)

pub bytes_take : (n : ℕ) (s : List ℕ) → Bytes s → Bytes (take n s)
bytes_take zero s y = tt
bytes_take (suc n) [] y = tt
bytes_take (suc n) (b ∷ bs) y = (y.0, bytes_take n bs y.1)

pub bytes_drop : (n : ℕ) (s : List ℕ) → Bytes s → Bytes (drop n s)
bytes_drop zero s y = y
bytes_drop (suc n) [] y = tt
bytes_drop (suc n) (b ∷ bs) y = bytes_drop n bs y.1

pub bytes-zeros : (n : ℕ) → Bytes (replicate n 0)
bytes-zeros zero = tt
bytes-zeros (suc n) = (omega arith, bytes-zeros n)

pub bytes-parts : (f : ℕ → List ℕ) (i c : ℕ) → ((k : ℕ) → Bytes (f k)) → Bytes (parts f i c)
unfolding parts
bytes-parts f i zero h = tt
bytes-parts f i (suc c) h = bytes-append (f i) (parts f (suc i) c) (h i) (bytes-parts f (suc i) c h)

-- ---- the bytes of a number are bytes, two or four
byte : (v : ℕ) → v % 256 < 256
byte v = mod-lt v {m = 256} (omega arith)

pub bytes-u16 : (v : ℕ) → Bytes (u16_bytes v)
unfolding u16_bytes
bytes-u16 v = (byte v, (byte (v / 256), tt))

pub bytes-u32 : (v : ℕ) → Bytes (u32_bytes v)
unfolding u32_bytes
bytes-u32 v = bytes-append (u16_bytes (v % 65536)) (u16_bytes (v / 65536)) (bytes-u16 (v % 65536)) (bytes-u16 (v / 65536))

pub bytes-i32 : (z : ℤ) → Bytes (i32_bytes z)
unfolding i32_bytes
bytes-i32 z = bytes-u32 (unsigned z)

pub length-u16 : (v : ℕ) → length (u16_bytes v) ≡ 2
unfolding u16_bytes
length-u16 v = refl

pub length-u32 : (v : ℕ) → length (u32_bytes v) ≡ 4
unfolding u32_bytes u16_bytes
length-u32 v = refl

pub length-i32 : (z : ℤ) → length (i32_bytes z) ≡ 4
unfolding i32_bytes
length-i32 z = length-u32 (unsigned z)

-- ---- places: neighbouring parts of a list, and a part among appended ones
pub join : {A : Type 0} (s : List A) (i m n : ℕ) → take m (drop i s) ++ take n (drop (i + m) s) ≡ take (m + n) (drop i s)
join s i m n = rw (← drop-drop m i s) (sym (take-add m n (drop i s)))

pub place : {A : Type 0} (first part rest : List A) (i n : ℕ) → length first ≡ i → length part ≡ n → take n (drop i (first ++ (part ++ rest))) ≡ part
place first part rest i n e l = rw (drop_at first (part ++ rest) i e) (take_at part rest n l)

-- where a part is two parts
pub halves : {A : Type 0} (s a b : List A) (m n i : ℕ) → length a ≡ m → length b ≡ n → take (m + n) (drop i s) ≡ a ++ b → (take m (drop i s) ≡ a) × (take n (drop (i + m) s) ≡ b)
halves s a b m n i la lb e =
    let x : take m (drop i s) ≡ a = sym (take-take m (m + n) (drop i s) (omega arith)) ∙ ap (take m) e ∙ take_at a b m la in
    let j : take m (drop i s) ++ take n (drop (i + m) s) ≡ a ++ b = join s i m n ∙ e in
    (x, sym (drop_at (take m (drop i s)) (take n (drop (i + m) s)) m (ap length x ∙ la)) ∙ ap (drop m) j ∙ drop_at a b m la)

get_d_part : (s : List ℕ) (i n k : ℕ) → k < n → get_or s (i + k) 0 ≡ get_or (take n (drop i s)) k 0
get_d_part s i n k l = sym (get_or-take n (drop i s) k 0 l ∙ get_or-drop i s k 0)

-- a number is read in a part as in the whole
pub u16-take : (n : ℕ) (s : List ℕ) (i : ℕ) → i + 2 ≤ n → u16_at (take n s) i ≡ u16_at s i
unfolding u16_at
u16-take n s i l = rw (get_or-take n s i 0 (omega arith), get_or-take n s (i + 1) 0 (omega arith))

pub u32-take : (n : ℕ) (s : List ℕ) (i : ℕ) → i + 4 ≤ n → u32_at (take n s) i ≡ u32_at s i
unfolding u32_at
u32-take n s i l = rw (u16-take n s i (omega arith), u16-take n s (i + 2) (omega arith))

pub i32-take : (n : ℕ) (s : List ℕ) (i : ℕ) → i + 4 ≤ n → i32_at (take n s) i ≡ i32_at s i
unfolding i32_at
i32-take n s i l = ap signed (u32-take n s i l)

pub u16-drop : (n : ℕ) (s : List ℕ) (i : ℕ) → u16_at (drop n s) i ≡ u16_at s (n + i)
unfolding u16_at
u16-drop n s i = let e : n + (i + 1) ≡ n + i + 1 = omega arith in rw (get_or-drop n s i 0, get_or-drop n s (i + 1) 0, e)

pub u32-drop : (n : ℕ) (s : List ℕ) (i : ℕ) → u32_at (drop n s) i ≡ u32_at s (n + i)
unfolding u32_at
u32-drop n s i = let e : n + (i + 2) ≡ n + i + 2 = omega arith in rw (u16-drop n s i, u16-drop n s (i + 2), e)

-- ---- reading what is written
digits : (v : ℕ) → v < 65536 → v % 256 + 256 * (v / 256 % 256) ≡ v
digits v l = omega arith

pub u16-read : (s : List ℕ) (i v : ℕ) → v < 65536 → take 2 (drop i s) ≡ u16_bytes v → u16_at s i ≡ v
unfolding u16_at u16_bytes
u16-read s i v l e =
    let z : get_or s i 0 ≡ get_or (take 2 (drop i s)) 0 0 = ap (λ (x : ℕ). get_or s x 0) (omega arith) ∙ get_d_part s i 2 0 (omega arith) in
    rw (z, get_d_part s i 2 1 (omega arith), e) (digits v l)

pub u32-read : (s : List ℕ) (i v : ℕ) → v < 2 ^ 32 → take 4 (drop i s) ≡ u32_bytes v → u32_at s i ≡ v
unfolding u32_at u32_bytes
u32-read s i v l e =
    let h = halves s (u16_bytes (v % 65536)) (u16_bytes (v / 65536)) 2 2 i (length-u16 (v % 65536)) (length-u16 (v / 65536)) e in
    rw (u16-read s i (v % 65536) (omega arith) h.0, u16-read s (i + 2) (v / 65536) (omega arith) h.1) (omega arith)

-- the number's bytes alone
pub u16-back : (v : ℕ) → v < 65536 → u16_at (u16_bytes v) 0 ≡ v
unfolding u16_bytes
u16-back v l = u16-read (u16_bytes v) 0 v l refl

pub u32-back : (v : ℕ) → v < 2 ^ 32 → u32_at (u32_bytes v) 0 ≡ v
unfolding u16_bytes u32_bytes
u32-back v l = u32-read (u32_bytes v) 0 v l refl

-- ---- writing what is read
low_digit : (c a q : ℕ) → a < c → (a + c * q) % c ≡ a
low_digit c a q l = add-mul-mod_self_left a c q ∙ mod-eq_of_lt l

high_digit : (c a q : ℕ) → a < c → (a + c * q) / c ≡ q
high_digit c a q l = let z : 0 < c = omega arith in add-mul-div_left a q z ∙ rw (div-eq_of_lt l) (zero-add q)

u16-digits : (a b : ℕ) → a < 256 → b < 256 → u16_bytes (a + 256 * b) ≡ a ∷ b ∷ []
unfolding u16_bytes
u16-digits a b l m = rw (low_digit 256 a b l, high_digit 256 a b l, mod-eq_of_lt m)

u32-digits : (a b : ℕ) → a < 65536 → u32_bytes (a + 65536 * b) ≡ u16_bytes a ++ u16_bytes b
unfolding u32_bytes
u32-digits a b l = rw (low_digit 65536 a b l, high_digit 65536 a b l)

module _ (s : List ℕ) (y : Bytes s) (i : ℕ) where
  pub u16-small : u16_at s i < 65536
  unfolding u16_at
  u16-small = omega (arith, bytes-at s y i, bytes-at s y (i + 1))

  pub u16-written : i + 2 ≤ length s → u16_bytes (u16_at s i) ≡ take 2 (drop i s)
  unfolding u16_at
  u16-written l =
      u16-digits (get_or s i 0) (get_or s (i + 1) 0) (bytes-at s y i) (bytes-at s y (i + 1)) ∙
      rw (drop-cons s i 0 (omega arith), drop-cons s (suc i) 0 (omega arith), add-one i)

pub u32-small : (s : List ℕ) → Bytes s → (i : ℕ) → u32_at s i < 2 ^ 32
unfolding u32_at
u32-small s y i = omega (arith, u16-small s y i, u16-small s y (i + 2))

pub u32-written : (s : List ℕ) → Bytes s → (i : ℕ) → i + 4 ≤ length s → u32_bytes (u32_at s i) ≡ take 4 (drop i s)
unfolding u32_at
u32-written s y i l =
    u32-digits (u16_at s i) (u16_at s (i + 2)) (u16-small s y i) ∙
    rw (u16-written s y i (omega arith), u16-written s y (i + 2) (omega arith)) (join s i 2 2)

-- ---- two's complement: there and back
unsigned_by : (w : ℕ) (t : Bool) → ltb w (2 ^ 31) ≡ t → w < 2 ^ 32 → unsigned (signed w) ≡ w
unfolding unsigned signed
unsigned_by w true e l = rw (e, unsigned)
unsigned_by w false e l = rw (e, unsigned) (omega (arith, ltb-false w (2 ^ 31) e))

pub unsigned_signed : (w : ℕ) → w < 2 ^ 32 → unsigned (signed w) ≡ w
unsigned_signed w l = unsigned_by w (ltb w (2 ^ 31)) refl l

pub unsigned_small : (z : ℤ) → mag z < 2 ^ 31 → unsigned z < 2 ^ 32
unfolding unsigned
unsigned_small (pos a) l = omega arith
unsigned_small (negsuc a) l = omega arith

pub signed-unsigned : (z : ℤ) → mag z < 2 ^ 31 → signed (unsigned z) ≡ z
unfolding unsigned signed
signed-unsigned (pos a) l = rw (lt-ltb a (2 ^ 31) l)
signed-unsigned (negsuc a) l = let e : 2 ^ 32 - suc (2 ^ 32 - suc a) ≡ a = omega arith in rw (le-ltb (2 ^ 32 - suc a) (2 ^ 31) (omega arith), e)

signed_by : (w : ℕ) (t : Bool) → ltb w (2 ^ 31) ≡ t → w < 2 ^ 32 → mag (signed w) < 2 ^ 31
unfolding signed
signed_by w true e l = rw e (ltb-true w (2 ^ 31) e)
signed_by w false e l = rw e (omega (arith, ltb-false w (2 ^ 31) e))

pub signed-small : (w : ℕ) → w < 2 ^ 32 → mag (signed w) < 2 ^ 31
signed-small w l = signed_by w (ltb w (2 ^ 31)) refl l

pub i32-read : (s : List ℕ) (i : ℕ) (z : ℤ) → mag z < 2 ^ 31 → take 4 (drop i s) ≡ i32_bytes z → i32_at s i ≡ z
unfolding i32_at i32_bytes
i32-read s i z l e = ap signed (u32-read s i (unsigned z) (unsigned_small z l) e) ∙ signed-unsigned z l

pub i32-back : (z : ℤ) → mag z < 2 ^ 31 → i32_at (i32_bytes z) 0 ≡ z
unfolding u16_bytes u32_bytes i32_bytes
i32-back z l = i32-read (i32_bytes z) 0 z l refl

pub i32-written : (s : List ℕ) → Bytes s → (i : ℕ) → i + 4 ≤ length s → i32_bytes (i32_at s i) ≡ take 4 (drop i s)
unfolding i32_at i32_bytes
i32-written s y i l = rw (unsigned_signed (u32_at s i) (u32-small s y i)) (u32-written s y i l)
