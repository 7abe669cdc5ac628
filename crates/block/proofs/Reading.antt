-- Numbers in bytes, as the code reads them.
use Rattle.std.proofs.Common.{◌≡◌, ℕ, ◌+◌, ◌^◌, ◌<◌, List, get_or, ℤ, pos, negsuc, refl, ap, ◌∙◌, arith, w16, w32, to_z}
use Rattle.std.specs.List.{between}
use Rattle.std.specs.Int.{from_le_bytes}
use Rattle.std.specs.Int.Signed.{mag}
use Rattle.std.proofs.lemmas.List.Edits.{get_or-between}
use Rattle.integer.specs.Size.{Within}
use Rattle.model_files.specs.Bytes.{u16_at, u32_at, i32_at, signed}

-- the bytes from place i on
byte-is : (s bytes : List ℕ) (i n k j : ℕ) → k < n → i + k ≡ j → bytes ≡ between i (i + n) s → get_or bytes k 0 ≡ get_or s j 0
byte-is s bytes i n k j l p e = ap (λ (b : List ℕ). get_or b k 0) e ∙ get_or-between s i (i + n) k 0 (omega arith) ∙ ap (λ (m : ℕ). get_or s m 0) p

pub u16-is : (s bytes : List ℕ) (i : ℕ) → bytes ≡ between i (i + 2) s → from_le_bytes w16 bytes ≡ u16_at s i
unfolding u16_at
u16-is s bytes i e =
    omega (arith, byte-is s bytes i 2 0 i (omega arith) (omega arith) e, byte-is s bytes i 2 1 (i + 1) (omega arith) refl e)

pub u32-is : (s bytes : List ℕ) (i : ℕ) → bytes ≡ between i (i + 4) s → from_le_bytes w32 bytes ≡ u32_at s i
unfolding u32_at u16_at
u32-is s bytes i e =
    omega (
      arith,
      byte-is s bytes i 4 0 i (omega arith) (omega arith) e,
      byte-is s bytes i 4 1 (i + 1) (omega arith) refl e,
      byte-is s bytes i 4 2 (i + 2) (omega arith) refl e,
      byte-is s bytes i 4 3 (i + 2 + 1) (omega arith) (omega arith) e,
    )

-- two's complement
pub i32-is : (s bytes : List ℕ) (i : ℕ) → bytes ≡ between i (i + 4) s → to_z w32 (from_le_bytes w32 bytes) ≡ i32_at s i
unfolding i32_at signed
i32-is s bytes i e = rw (u32-is s bytes i e)

pub i32-within : (z : ℤ) → mag z < 2 ^ 31 → Within (2 ^ 31) z
i32-within (pos n) l = record { within = omega arith }
i32-within (negsuc n) l = record { within = omega arith }
