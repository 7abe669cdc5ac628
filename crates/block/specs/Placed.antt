-- Bytes written into a block.
use Rattle.std.specs.Prelude.{◌≡◌, ℕ, ◌+◌, List, ◌++◌, length, take, drop, replicate}
use Rattle.model_files.specs.Bytes.{block_length}

-- t is s with the bytes in place of those from i to j
pub record Placed (s : List ℕ) (i j : ℕ) (bytes t : List ℕ) : Type 0 where
  pub width : i + length bytes ≡ j
  pub whole : t ≡ take i s ++ (bytes ++ drop j s)

-- a block of zeros
unfoldable pub cleared : List ℕ
cleared = replicate block_length 0
