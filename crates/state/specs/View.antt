-- The view of a search state: what the model's definitions say of it. It drops what stands past n, m, the kept cuts and the depth, and keeps the
-- sizes as they are, so that a made-up m of 1000 is seen as such.
use Rattle.std.specs.Prelude.{ℕ, zero, suc, ◌+◌, ◌*◌, ◌-◌, ◌^◌, min, cond, List, [], ◌∷◌, eqb, ltb, ℤ, pos, get_or}
use Rattle.model_problems.specs.Lists.{tab}
use Rattle.model_problems.specs.Ranges.{max_cuts}
use Rattle.model_problems.specs.Constraint.{Constraint}
use Rattle.model_walk.specs.Search as model
use Rattle.layout.specs.Rows.{row_length, number_in, row_at, divided_at, input_at, box_of, thresholds_of}
use Rattle.state.specs.declared.Level.{Level}
use Rattle.state.specs.declared.Search.{Search}
use Rattle.state.specs.declared.Status.{Status}
use Rattle.state.specs.declared.Status.TheVariants.{Undecided, Infeasible, Solved}

-- a reason: three numbers have names, and every other is a constraint's
abbrev pub domain_reason : ℕ
domain_reason = 0

abbrev pub decision_reason : ℕ
decision_reason = 2 ^ 64 - 1

abbrev pub flipped_reason : ℕ
flipped_reason = 2 ^ 64 - 2

unfoldable pub reason_of : ℕ → model.Reason
reason_of k =
    cond (eqb k domain_reason) model.domain (cond (eqb k decision_reason) model.decision (cond (eqb k flipped_reason) model.flipped (model.constraint k)))

unfoldable pub reasons_in : List ℕ → List ℕ → ℕ → model.Reasons
reasons_in below above i = record { lower = reason_of (get_or below i 0); upper = reason_of (get_or above i 0) }

unfoldable pub level_of : ℕ → Level → model.Level
level_of n l = record { box = box_of n l.lower l.upper; reasons = tab (reasons_in l.below l.above) 0 n; decided = l.decided }

abbrev pub no_level : Level
no_level = record { lower = []; upper = []; below = []; above = []; decided = 0 }

unfoldable pub level_at : ℕ → List Level → ℕ → model.Level
level_at n levels d = level_of n (get_or levels d no_level)

-- the levels d − 1, .., 0
unfoldable pub levels_from : ℕ → List Level → ℕ → List model.Level
levels_from n levels zero = []
levels_from n levels (suc d) = level_at n levels d ∷ levels_from n levels d

unfoldable pub status_of : Status → model.Status
status_of Undecided = model.undecided
status_of Infeasible = model.infeasible
status_of Solved = model.solved

-- how many cuts are kept
unfoldable pub kept_cuts : ℕ → ℕ
kept_cuts made = min made max_cuts

-- how many cuts were made and are no longer kept
abbrev pub dropped_cuts : ℕ → ℕ
dropped_cuts made = made - max_cuts

-- the number of the kept constraint at position p, of m inputs and `made` cuts made
unfoldable pub number_for : ℕ → ℕ → ℕ → ℕ
number_for m made p = cond (ltb p m) (suc p) (suc (p + dropped_cuts made))

-- the divisor of the kept constraint at position p
unfoldable pub divisor_for : ℕ → List ℤ → ℕ → ℤ
divisor_for m divisors p = cond (ltb p m) (number_in divisors p) (pos 0)

-- the kept constraint at position p
unfoldable pub kept_at : ℕ → ℕ → List ℤ → List ℤ → ℕ → Constraint
kept_at n m rows divisors p = divided_at n rows (row_length * p) (divisor_for m divisors p)

unfoldable pub stored_number : List ℕ → ℕ → ℕ
stored_number numbers p = get_or numbers p 0

-- a state's core from its parts: the thresholds, the inputs, sizes, the rows of the cuts, stored numbers, the deepest level and those above it
unfoldable pub core_over : List ℤ → List Constraint → ℕ → ℕ → ℕ → List ℤ → List ℕ → model.Level → List model.Level → model.Core
core_over thresholds inputs n m made rows numbers deepest outer =
    record {
      variables = n;
      thresholds = thresholds;
      inputs = inputs;
      cuts = tab (row_at n rows) m (kept_cuts made);
      numbers = tab (stored_number numbers) 0 (kept_cuts made);
      made = made;
      deepest = deepest;
      outer = outer;
    }

-- where no input carries a divisor, and thresholds do not matter
abbrev pub core_with : ℕ → ℕ → ℕ → List ℤ → List ℕ → model.Level → List model.Level → model.Core
core_with n m made rows numbers deepest outer = core_over [] (tab (row_at n rows) 0 m) n m made rows numbers deepest outer

unfoldable pub inputs_of : Search → List Constraint
inputs_of s = tab (input_at s.n s.rows s.divisors) 0 s.m

unfoldable pub core_of : Search → model.Core
core_of s = core_over (thresholds_of s.n s.thresholds) (inputs_of s) s.n s.m s.made s.rows s.numbers (level_at s.n s.levels s.depth) (levels_from s.n s.levels s.depth)

unfoldable pub view : Search → model.Search
view s =
    record { core = core_of s; budget = s.budget; conflicts = s.conflicts; propagations = s.propagations; status = status_of s.status }
