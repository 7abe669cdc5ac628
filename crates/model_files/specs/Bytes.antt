-- Numbers in bytes, and 512-byte blocks with their check. A list of bytes is a list of numbers below 256.
use Rattle.std.specs.Prelude.{ℕ, suc, ◌+◌, ◌*◌, ◌/◌, ◌%◌, ◌^◌, ◌-◌, ◌<◌, Bool, cond, List, [], ◌∷◌, ◌++◌, ℤ, pos, negsuc, ltb, eqb, get_or, take, drop, length, replicate}
use Rattle.model_problems.specs.Lists.{tab, sum, all_of}

-- every element is a byte
abbrev pub Bytes : List ℕ → Type 0
Bytes [] = Unit {0}
Bytes (b ∷ bs) = (b < 256) × Bytes bs

-- ---- numbers, least byte first, at a place of a list of bytes
unfoldable pub u16_at : List ℕ → ℕ → ℕ
u16_at s i = get_or s i 0 + 256 * get_or s (i + 1) 0

unfoldable pub u32_at : List ℕ → ℕ → ℕ
u32_at s i = u16_at s i + 65536 * u16_at s (i + 2)

-- two's complement in 32 bits
unfoldable pub signed : ℕ → ℤ
signed w = cond (ltb w (2 ^ 31)) (pos w) (negsuc (2 ^ 32 - suc w))

unfoldable pub i32_at : List ℕ → ℕ → ℤ
i32_at s i = signed (u32_at s i)

-- ---- and the bytes of a number
unfoldable pub u16_bytes : ℕ → List ℕ
u16_bytes v = v % 256 ∷ v / 256 % 256 ∷ []

unfoldable pub u32_bytes : ℕ → List ℕ
u32_bytes v = u16_bytes (v % 65536) ++ u16_bytes (v / 65536)

unfoldable pub unsigned : ℤ → ℕ
unsigned (pos a) = a
unsigned (negsuc a) = 2 ^ 32 - suc a

unfoldable pub i32_bytes : ℤ → List ℕ
i32_bytes z = u32_bytes (unsigned z)

-- ---- blocks
abbrev pub block_length : ℕ
block_length = 512

-- where a block's check stands
abbrev pub check_offset : ℕ
check_offset = 508

-- block k of a file
unfoldable pub block : List ℕ → ℕ → List ℕ
block s k = take block_length (drop (block_length * k) s)

unfoldable pub word_at : List ℕ → ℕ → ℕ
word_at b w = u32_at b (4 * w)

-- the 'check' of block k: the sum of its other 127 words plus k + 1, modulo 2^32
unfoldable pub checksum : ℕ → List ℕ → ℕ
checksum k b = (sum (tab (word_at b) 0 127) + suc k) % 2 ^ 32

unfoldable pub is_zero : ℕ → Bool
is_zero b = eqb b 0

-- the bytes from place i to place e are zero
unfoldable pub zero_between : ℕ → ℕ → List ℕ → Bool
zero_between i e b = all_of is_zero (drop i (take e b))

-- the bytes from place i to the check are zero
unfoldable pub zero_from : ℕ → List ℕ → Bool
zero_from i b = zero_between i check_offset b

-- the content, then zeros up to place e
unfoldable pub padded_to : ℕ → List ℕ → List ℕ
padded_to e content = content ++ replicate (e - length content) 0

-- the content, then zeros up to the check
unfoldable pub padded : List ℕ → List ℕ
padded content = padded_to check_offset content

-- the 512 bytes of block k
unfoldable pub sealed : ℕ → List ℕ → List ℕ
sealed k content = padded content ++ u32_bytes (checksum k (padded content))
