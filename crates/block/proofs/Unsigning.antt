-- A signed number's 32 bits: the number, or 2^32 more where it is negative.
use Rattle.std.proofs.Common.{◌≡◌, ℕ, ◌^◌, ◌-◌, ◌≤◌, List, ◌++◌, ℤ, pos, negsuc, refl, arith, to_z-of_z, w64, to_z, of_z}
use Rattle.integer.specs.Size.{Within, weaken, fits}
use Rattle.model_files.specs.Bytes.{unsigned, u32_bytes, i32_bytes}
use Rattle.block.proofs.Placing.{then, low-same}
use Rattle.block.specs.Placed.{Placed}

-- they are the lowest of its 64 bits
pub low-i32 : (z : ℤ) → Within (2 ^ 31) z → u32_bytes (of_z w64 z) ≡ i32_bytes z
unfolding i32_bytes unsigned
low-i32 (pos n) h = refl
low-i32 (negsuc n) h = low-same (of_z w64 (negsuc n)) (unsigned (negsuc n)) (2 ^ 32 - 1) (omega (arith, h.within))

-- ---- a caller's number comes to `put_i32` as bits: what `put_i32` asks, and what it gives
abbrev bits : ℤ → ℤ
bits z = to_z w64 (of_z w64 z)

module _ (z : ℤ) (n : ℕ) (h : Within n z) (l : n ≤ 2 ^ 31) where
  back : bits z ≡ z
  back = to_z-of_z (fits (omega arith) (weaken l h))

  pub bits-within : Within (2 ^ 31) (bits z)
  bits-within = rw back (weaken l h)

  pub bits-placed : {s t : List ℕ} {i j : ℕ} → Placed s i j (i32_bytes (bits z)) t → Placed s i j (i32_bytes z) t
  bits-placed p = rw (← back) p

  pub then-i32 : {s t u b : List ℕ} {i j k : ℕ} → Placed s i j (i32_bytes (bits z)) t → Placed t j k b u → Placed s i k (i32_bytes z ++ b) u
  then-i32 p q = then (bits-placed p) q
