-- Problems changed: a constraint put at the end or in place of another, constraints left out, a variable closed.
use Rattle.std.specs.Prelude.{ℕ, suc, ◌-◌, Bool, cond, List, [], ◌∷◌, ◌++◌, pos, set, take, drop, length}
use Rattle.model_problems.specs.Constraint.{Constraint, Bounds}
use Rattle.model_problems.specs.Problem.{Problem}

unfoldable pub with_constraints : Problem → List Constraint → Problem
with_constraints p ks = record { domain = p.domain; thresholds = p.thresholds; constraints = ks; budget = p.budget }

-- one 'line' more, at the end
unfoldable pub appended : Problem → Constraint → Problem
appended p k = with_constraints p (p.constraints ++ (k ∷ []))

-- one in place of constraint j, counted from 0; where there is no such constraint nothing changes
unfoldable pub replaced : ℕ → Problem → Constraint → Problem
replaced j p k = with_constraints p (set p.constraints j k)

unfoldable pub last_replaced : Problem → Constraint → Problem
last_replaced p k = replaced (length p.constraints - 1) p k

-- all but constraint j
unfoldable pub without : ℕ → Problem → Problem
without j p = with_constraints p (take j p.constraints ++ drop (suc j) p.constraints)

-- those that the mask keeps, in their order: true for one that stays in
unfoldable pub chosen : List Bool → List Constraint → List Constraint
chosen [] ks = []
chosen (b ∷ mask) [] = []
chosen (b ∷ mask) (k ∷ ks) = cond b (k ∷ chosen mask ks) (chosen mask ks)

unfoldable pub reduced : List Bool → Problem → Problem
reduced mask p = with_constraints p (chosen mask p.constraints)

-- limits 0 to 0
abbrev pub shut : Bounds
shut = record { lower = pos 0; upper = pos 0 }

-- variable i closed: both limits 0, and no threshold
unfoldable pub closed : ℕ → Problem → Problem
closed i p = record { domain = set p.domain i shut; thresholds = set p.thresholds i (pos 0); constraints = p.constraints; budget = p.budget }
