-- A bound of a variable is set, with its reason.
use Rattle.std.specs.Prelude.{ℕ, ◌<◌, List, ◌≡◌, ℤ, pos, ◌-ℤ◌, set}
use Rattle.model_problems.specs.Ranges.{max_variables}
use Rattle.integer.specs.Size.{Within}
use Rattle.linear.specs.Ranges.{widest_bound, widest_change}
use Rattle.model_problems.specs.Threshold.{lifted, sunk}
use Rattle.linear.specs.declared.activity.Bound.{Bound}
use Rattle.linear.specs.declared.activity.Bound.TheVariants.{Lower, Upper}
use Rattle.layout.specs.Rows.{number_in}
use Rattle.state.specs.Change.{raised, lowered}
use Rattle.state.specs.declared.Level.{Level}

-- ---- on one side
pub record Settable (i : ℕ) (v : ℤ) (bounds : List ℤ) (reasons : List ℕ) : Type 0 where
  pub variable : i < max_variables
  pub old : Within widest_bound (number_in bounds i)
  pub change : Within widest_change (v -ℤ number_in bounds i)

pub record BoundSet (i : ℕ) (v : ℤ) (reason : ℕ) (bounds : List ℤ) (reasons : List ℕ) (bounds₁ : List ℤ) (reasons₁ : List ℕ) : Type 0 where
  pub bound : bounds₁ ≡ set bounds i v
  pub why : reasons₁ ≡ set reasons i reason

-- ---- on the bound's side
abbrev pub SettableAt : ℕ → Bound → Level → Type 0
SettableAt i (Lower v) l = Settable i v l.lower l.below
SettableAt i (Upper v) l = Settable i v l.upper l.above

-- by how much the lower bound of variable i changes, and the upper one
abbrev pub rise_of : ℕ → Bound → List ℤ → ℤ
rise_of i (Lower v) lower = v -ℤ number_in lower i
rise_of i (Upper v) lower = pos 0

abbrev pub fall_of : ℕ → Bound → List ℤ → ℤ
fall_of i (Lower v) upper = pos 0
fall_of i (Upper v) upper = v -ℤ number_in upper i

-- the level with the bound, and the reason k
abbrev pub bounded : Level → ℕ → Bound → ℕ → Level
bounded l i (Lower v) k = raised l i v k
bounded l i (Upper v) k = lowered l i v k

-- a bound in the gap below the threshold t jumps to the gap's end
abbrev pub past_gap : ℤ → Bound → Bound
past_gap t (Lower v) = Lower (lifted t v)
past_gap t (Upper v) = Upper (sunk t v)
