-- What a call is given.
use Rattle.std.specs.Prelude.{◌≡◌}
use Rattle.state.specs.declared.Search.{Search}
use Rattle.bits.specs.Divided.{Due, Everyone, Columns}
use Rattle.engine.specs.declared.given.Given.{Given}

-- which inputs are divisor constraints
pub record Sorted (g : Given) : Type 0 where
  pub every : Due g.m g.divided.divisors Everyone g.divided.all
  pub columns : Columns g.n g.m g.divided.lines g.divided.divisors g.divided.columns

-- of a state, whatever its turns changed
pub record GivenOf (s : Search) (g : Given) : Type 0 where
  pub variables : s.n ≡ g.n
  pub inputs : s.m ≡ g.m
  pub budget : s.budget ≡ g.budget
  pub thresholds : s.thresholds ≡ g.thresholds
  pub divisors : s.divisors ≡ g.divided.divisors

-- taken from a state
pub record Taken (s : Search) (g : Given) : Type 0 where
  pub of_state : GivenOf s g
  pub rows : g.divided.lines ≡ s.rows
  pub sorted : Sorted g
