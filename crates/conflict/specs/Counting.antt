-- A counted conflict: what it asks, and what it leaves.
use Rattle.std.specs.Prelude.{ℕ, ◌+◌, ◌*◌, ◌≤◌, ◌<◌, Bool, true, List, ◌⊎◌, ◌≡◌, ℤ, pos, get_or, length}
use Rattle.model_problems.specs.Ranges.{max_variables, max_cuts}
use Rattle.model_files.specs.Bytes.{block_length}
use Rattle.model_problems.specs.Constraint.{falsified}
use Rattle.model_files.specs.File.{no_constraint}
use Rattle.model_files.specs.Journal.{record_bytes}
use Rattle.layout.specs.Rows.{number_in, constraint_at, input_at}
use Rattle.state.specs.View.{no_level, kept_cuts, number_for, divisor_for}
use Rattle.state.specs.declared.Level.{Level}
use Rattle.record.specs.Written.{record_of, Emitted}
use Rattle.bits.specs.Masks.{Masked}
use Rattle.propagate.specs.Apart.{kept_over, Apart}
use Rattle.levels.specs.Level.{box_at, LevelsNested, LeastFalsifying}
use Rattle.conflict.specs.Learning.{Learnable, LearnedFrom}

-- the conflict in position j, met in the level at `depth`, which falsifies the constraint
pub record Countable (n m made j depth count done : ℕ) (keep : Bool) (rows : List ℤ) (numbers : List ℕ) (levels : List Level) (lines divisors : List ℤ) (masks buffer : List ℕ) : Type 0 where
  pub learnable : Learnable n m made rows numbers (get_or levels depth no_level) j
  pub apart : Apart n m rows lines divisors
  pub deep : depth ≤ max_variables
  pub nested : LevelsNested n depth levels
  pub false : falsified (get_or (kept_over n m made rows lines divisors) j no_constraint) (box_at n levels depth) ≡ true
  pub masked : length masks ≡ max_cuts
  pub some : 1 ≤ count
  pub room : keep ≡ true → block_length * (done + 1) ≤ length buffer

-- ---- at an inequality: what was learned, and the level to go back to
pub record LearnedAt (n m made j depth : ℕ) (rows : List ℤ) (numbers : List ℕ) (levels : List Level) (divisors cut : List ℤ) (used : List ℕ) (number back made₁ : ℕ) (rows₁ : List ℤ) (numbers₁ : List ℕ) : Type 0 where
  pub plain : divisor_for m divisors j ≡ pos 0
  pub learned : LearnedFrom n m made rows numbers (get_or levels depth no_level) j (record { cut = cut; used = used; number = number }) made₁ rows₁ numbers₁
  pub jump : LeastFalsifying (constraint_at n cut 0) n depth levels back

-- ---- at an input with a divisor: nothing
pub record DismissedAt (n m made j depth : ℕ) (rows : List ℤ) (numbers : List ℕ) (levels : List Level) (lines divisors cut : List ℤ) (used : List ℕ) (number back made₁ : ℕ) (rows₁ : List ℤ) (numbers₁ : List ℕ) : Type 0 where
  pub position : j < m
  pub divided : number_in divisors j ≡ pos 0 → ⊥
  pub cut_zero : (i : ℕ) → number_in cut i ≡ pos 0
  pub used_zero : (i : ℕ) → get_or used i 0 ≡ 0
  pub nothing : number ≡ 0
  pub same_made : made₁ ≡ made
  pub same_rows : rows₁ ≡ rows
  pub same_numbers : numbers₁ ≡ numbers
  pub jump : LeastFalsifying (input_at n lines divisors j) n depth levels back

-- what was learned or not, the number of the falsified constraint, and the record's bytes
pub record Counted (n m made j depth count done : ℕ) (keep : Bool) (rows : List ℤ) (numbers : List ℕ) (levels : List Level) (lines divisors : List ℤ) (masks buffer : List ℕ)
    (back made₁ : ℕ) (rows₁ : List ℤ) (numbers₁ masks₁ buffer₁ : List ℕ) : Type 0 where
  pub cut : List ℤ
  pub used : List ℕ
  pub number : ℕ
  pub falsified : ℕ
  pub concluded : LearnedAt n m made j depth rows numbers levels divisors cut used number back made₁ rows₁ numbers₁ ⊎
      DismissedAt n m made j depth rows numbers levels lines divisors cut used number back made₁ rows₁ numbers₁
  pub marked : (inputs : List ℕ) → Masked n m (m + kept_cuts made) rows inputs masks → Masked n m (m + kept_cuts made₁) rows₁ inputs masks₁
  pub numbered : falsified ≡ number_for m made j
  pub written : Emitted keep done (record_bytes (record_of max_variables count falsified number depth back cut used)) buffer buffer₁
