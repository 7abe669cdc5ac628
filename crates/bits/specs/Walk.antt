-- A mask is walked from its lowest bit up: the first bit that is set, and the rest.
use Rattle.std.specs.Prelude.{ℕ, ◌^◌, ◌≤◌, ◌<◌, ◌≡◌, Option, MatchOption}
use Rattle.bits.specs.Masks.{bit}

-- bit t is the lowest that is set
pub record First (mask t : ℕ) : Type 0 where
  pub here : bit mask t ≡ 1
  pub before : (i : ℕ) → i < t → bit mask i ≡ 0
  pub inside : (k : ℕ) → mask < 2 ^ k → t < k

-- r has the bits of the mask above its lowest one that is set
pub record Rest (mask r : ℕ) : Type 0 where
  pub less : r < mask
  pub cleared : (t : ℕ) → First mask t → (i : ℕ) → i ≤ t → bit r i ≡ 0
  pub kept : (t : ℕ) → First mask t → (i : ℕ) → t < i → bit r i ≡ bit mask i

-- one step of the walk: the first bit and the rest, or the end
abbrev pub Step : ℕ → Option ℕ → ℕ → Type 0
Step mask t r = MatchOption t (mask ≡ 0) (λ t. First mask t × Rest mask r)
