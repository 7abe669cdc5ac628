-- The variables that have several values, counted. A decision leaves one fewer, so there are no more levels than variables.
use Prim.Native.Nat.{ℕ, zero, suc, ◌+◌, ◌-◌, ◌≤◌, ◌<◌, min}
use native.Mathlib.Omega.{arith}
use mathlib.Core.List.{[], ◌∷◌}
use lib.ListN.{length}
use Rattle.model_problems.specs.Constraint.{Box, lower_at, upper_at}
use Rattle.integer.specs.Parts.{up, down, ◌⊑◌, ◌⊏◌}
use Rattle.validity.proofs.Boxes.{Nested}

-- 1 for each variable with L < U
abbrev pub opens : Box → ℕ
opens [] = 0
opens (b ∷ box) = min 1 (up b.upper + down b.lower - (up b.lower + down b.upper)) + opens box

pub opens-few : (box : Box) → opens box ≤ length box
opens-few [] = omega arith
opens-few (b ∷ box) = omega (arith, opens-few box)

opens-nested : (box outer : Box) → Nested box outer → opens box ≤ opens outer
opens-nested [] [] n = omega arith
opens-nested [] (o ∷ outer) n = absurd n
opens-nested (b ∷ box) [] n = absurd n
opens-nested (b ∷ box) (o ∷ outer) n = omega (arith, opens-nested box outer n.2)

-- a variable that is open above and fixed below
pub opens-decided : (i : ℕ) (box outer : Box) → Nested box outer → lower_at outer i ⊏ upper_at outer i → upper_at box i ⊑ lower_at box i → opens box < opens outer
unfolding lower_at upper_at
opens-decided i box [] n w e = let z : ⊥ = omega arith in absurd z
opens-decided i [] (o ∷ outer) n w e = absurd n
opens-decided zero (b ∷ box) (o ∷ outer) n w e = omega (arith, opens-nested box outer n.2)
opens-decided (suc i) (b ∷ box) (o ∷ outer) n w e = omega (arith, opens-decided i box outer n.2 w e)
