-- A block's check as a loop adds it up, and zeros as a loop finds them.
use Rattle.std.proofs.Common.{◌≡◌, ℕ, suc, ◌+◌, ◌*◌, ◌%◌, ◌^◌, ◌≤◌, eqb, List, ◌∙◌, arith}
use native.Mathlib.Nat.{mod-add-mod}
use Rattle.model_problems.specs.Lists.{tab, sum}
use Rattle.model_files.specs.Bytes.{u32_at, check_offset, word_at, checksum}
use Rattle.lists.proofs.Sum.{sum_more}

-- ---- the check: the sum of the first w words plus k + 1, modulo 2^32
unfoldable pub sum_to : List ℕ → ℕ → ℕ → ℕ
sum_to b k w = (sum (tab (word_at b) 0 w) + suc k) % 2 ^ 32

module _ (b : List ℕ) (k : ℕ) where
  pub sum-none : (r : ℕ) → r ≡ (k % 2 ^ 32 + 1) % 2 ^ 32 → r ≡ sum_to b k 0
  unfolding sum_to tab sum
  sum-none r e = let z : k + 1 ≡ 0 + suc k = omega arith in e ∙ mod-add-mod k (2 ^ 32) 1 ∙ rw z

  pub sum-next : (w total word r : ℕ) → total ≡ sum_to b k w → word ≡ u32_at b (4 * w) → r ≡ (total + word) % 2 ^ 32 → r ≡ sum_to b k (w + 1)
  unfolding sum_to word_at
  sum-next w total word r t h e =
      let z : (sum (tab (word_at b) 0 w) + suc k) + u32_at b (4 * w) ≡ (sum (tab (word_at b) 0 w) + u32_at b (4 * w)) + suc k = omega arith in
      e ∙ rw (t, h, mod-add-mod, z, sum_more (word_at b) w)

  pub sum-all : (w total : ℕ) → w ≤ 127 → 127 ≤ w → total ≡ sum_to b k w → total ≡ checksum k b
  unfolding sum_to checksum
  sum-all w total h l e = let z : w ≡ 127 = omega arith in rw z at e

pub check-test : (b : List ℕ) (k r w : ℕ) → r ≡ checksum k b → w ≡ u32_at b check_offset → eqb r w ≡ eqb (checksum k b) (u32_at b check_offset)
check-test b k r w e h = rw (e, h)
