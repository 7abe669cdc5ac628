-- What the loop carries along with the level in hand: what is told and tracked of the constraints, what is saved of the levels above, and the masks.
use Prim.Native.Nat.{ℕ, ◌+◌, ◌≤◌, ◌<◌}
use native.Mathlib.Omega.{arith}
use mathlib.Core.List.{List}
use mathlib.Core.Bool.{false}
use mathlib.Core.Logic.{⊎_elim}
use mathlib.Core.Path.{◌≡◌}
use lib.IntN.{ℤ}
use lib.ListN.{get_or, set, length}
use lib.Seq.{get_or-set_same, get_or-set_other}
use Rattle.model_problems.specs.Constraint.{falsified}
use native.Mathlib.Nat.{eq-or-lt_of_le}
use Rattle.layout.specs.Rows.{input_at, box_of, max_rows, rows_length}
use Rattle.state.specs.View.{no_level, kept_cuts}
use Rattle.lists.proofs.Bools.{lt-or-le}
use Rattle.state.specs.declared.Level.{Level}
use Rattle.propagate.specs.Tracked.{Tracked}
use Rattle.propagate.specs.Apart.{kept_over, Warned}
use Rattle.bits.specs.Masks.{Masked}
use Rattle.backtrack.specs.Saved.{Saved, Roomy}

-- the levels from depth `low` on, above depth, falsify no input
abbrev pub ClearFrom : ℕ → ℕ → List ℤ → List ℤ → List Level → ℕ → ℕ → Type 0
ClearFrom n m lines divisors levels low depth =
    (t : ℕ) → low ≤ t → t < depth → (j : ℕ) → j < m → falsified (input_at n lines divisors j) (box_of n (get_or levels t no_level).lower (get_or levels t no_level).upper) ≡ false

pub record Carried (lines divisors : List ℤ) (low n m : ℕ) (rows : List ℤ) (levels : List Level) (made depth : ℕ) (lower upper activities reaches : List ℤ) (told : ℕ) (olds limits : List ℤ) (gones counts inputs cuts : List ℕ) : Type 0 where
  pub falsified : Warned (kept_over n m made rows lines divisors) n rows lower upper activities reaches (m + kept_cuts made) told
  pub room : Roomy olds limits gones counts
  pub saved : Saved n m made rows levels olds limits gones counts depth
  pub masks : Masked n m (m + kept_cuts made) rows inputs cuts
  -- the levels from depth `low` on were left by decisions of this call: they falsify no input
  pub clear : ClearFrom n m lines divisors levels low depth

-- nothing tracked yet
pub tracked-none : (n : ℕ) (rows lower upper activities reaches : List ℤ) → length rows ≡ rows_length → length activities ≡ max_rows → length reaches ≡ max_rows →
    Tracked n rows lower upper activities reaches 0
tracked-none n rows lower upper activities reaches e a b = record { long = e; room = a; reach_room = b; at = λ j h. absurd (omega arith) }

-- ---- a store at depth d leaves the levels above it
pub clear-stored : (n m : ℕ) (lines divisors : List ℤ) (levels : List Level) (low d : ℕ) (l : Level) → ClearFrom n m lines divisors levels low d → ClearFrom n m lines divisors (set levels d l) low d
clear-stored n m lines divisors levels low d l c t h k j g = rw (get_or-set_other levels d t l no_level (λ e. omega arith)) (c t h k j g)

-- one level more, left by a decision
pub clear-more : (n m : ℕ) (lines divisors : List ℤ) (levels : List Level) (low d : ℕ) (l : Level) → d < length levels → ClearFrom n m lines divisors levels low d →
    ((j : ℕ) → j < m → falsified (input_at n lines divisors j) (box_of n l.lower l.upper) ≡ false) → ClearFrom n m lines divisors (set levels d l) low (d + 1)
clear-more n m lines divisors levels low d l deep c here t h k j g =
    ⊎_elim
    (λ (e : t ≡ d). rw (e, get_or-set_same levels d l no_level deep) (here j g))
    (λ (e : t < d). clear-stored n m lines divisors levels low d l c t h e j g)
    (eq-or-lt_of_le (omega arith))

-- back at depth e: the levels above it, from the lesser of `low` and e
pub clear-back : (n m : ℕ) (lines divisors : List ℤ) (levels : List Level) (low d e low₁ : ℕ) → e < d → (e ≤ low → low₁ ≡ e) → (low ≤ e → low₁ ≡ low) → ClearFrom n m lines divisors levels low d →
    ClearFrom n m lines divisors levels low₁ e
clear-back n m lines divisors levels low d e low₁ b f g c t h k j q =
    ⊎_elim (λ (l : e < low). absurd (omega (arith, f (omega arith)))) (λ (l : low ≤ e). c t (omega (arith, g l)) (omega arith) j q) (lt-or-le e low)
