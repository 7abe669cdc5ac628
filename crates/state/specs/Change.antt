-- A level's arrays after a change.
use Rattle.std.specs.Prelude.{ℕ, List, ◌≡◌, ℤ, pos, get_or, set, length}
use Rattle.state.specs.View.{decision_reason}
use Rattle.state.specs.declared.Level.{Level}

-- the arrays of a level are as long as they are declared
pub record Whole (l : Level) : Type 0 where
  pub lower : length l.lower ≡ 32
  pub upper : length l.upper ≡ 32
  pub below : length l.below ≡ 32
  pub above : length l.above ≡ 32

-- the level of these arrays
abbrev pub held : List ℤ → List ℤ → List ℕ → List ℕ → ℕ → Level
held lower upper below above decided = record { lower = lower; upper = upper; below = below; above = above; decided = decided }

abbrev pub raised : Level → ℕ → ℤ → ℕ → Level
raised l i v reason = record { lower = set l.lower i v; upper = l.upper; below = set l.below i reason; above = l.above; decided = l.decided }

abbrev pub lowered : Level → ℕ → ℤ → ℕ → Level
lowered l i v reason = record { lower = l.lower; upper = set l.upper i v; below = l.below; above = set l.above i reason; decided = l.decided }

abbrev pub decided_at : Level → ℕ → Level
decided_at l i =
    record {
      lower = l.lower;
      upper = set l.upper i (get_or l.lower i (pos 0));
      below = l.below;
      above = set l.above i decision_reason;
      decided = i;
    }
