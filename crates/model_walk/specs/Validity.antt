-- Document 01's foreign walk (9): the tests that a search state must pass, its conditions in their order.
use Rattle.std.specs.Prelude.{ℕ, suc, ◌+◌, min, Bool, true, ◌&&◌, not, List, [], ◌∷◌, leb, ltb, eqb, length, ℤ}
use Rattle.std.specs.Int.Signed.{le_z, lt_z}
use Rattle.model_problems.specs.Lists.{tab, all, all_of, any_of, all_pairs}
use Rattle.model_problems.specs.Ranges.{max_variables, max_constraints, max_cuts, max_budget, max_propagations}
use Rattle.model_problems.specs.Constraint.{Constraint, Bounds, Box, is_inequality, lower_at, upper_at, is_open, falsified, in_range, divisor_in_range, equalℤ}
use Rattle.model_problems.specs.Threshold.{is_threshold, outside_gap}
use Rattle.model_problems.specs.Problem.{bounds_in_range}
use Rattle.model_walk.specs.Search.{Reason, domain, decision, flipped, constraint, Reasons, Level, Core, Status, undecided, infeasible, solved, Search, depth, levels, kept, dropped}

-- n, m, B, the depth, the dead ends and the cuts made
unfoldable pub scalars_valid : Search → Bool
scalars_valid s =
    all (
    leb 1 s.core.variables ∷
    leb s.core.variables max_variables ∷
    leb (length s.core.inputs) max_constraints ∷
    leb s.budget max_budget ∷
    leb (depth s.core) s.core.variables ∷
    leb s.conflicts s.budget ∷
    leb s.core.made s.conflicts ∷
    [])

-- the kept lines' constants and coefficients
unfoldable pub constraints_valid : Core → Bool
constraints_valid c = all_of in_range (kept c)

-- the inputs' divisors
unfoldable pub divisors_valid : Core → Bool
divisors_valid c = all_of divisor_in_range c.inputs

-- kept cuts are numbered one after the other, up to m + cuts made
unfoldable pub cut_number : Core → ℕ → ℕ
cut_number c p = suc (length c.inputs + dropped c + p)

unfoldable pub numbers_valid : Core → Bool
numbers_valid c = all_pairs eqb c.numbers (tab (cut_number c) 0 (length c.cuts))

-- a cause's line number: 1 to m plus cuts made
unfoldable pub reason_valid : ℕ → Reason → Bool
reason_valid last domain = true
reason_valid last decision = true
reason_valid last flipped = true
reason_valid last (constraint k) = leb 1 k && leb k last

unfoldable pub reasons_valid : ℕ → Reasons → Bool
reasons_valid last r = reason_valid last r.lower && reason_valid last r.upper

-- a frame by itself: bounds in range, no L above its U, causes
unfoldable pub level_valid : ℕ → Level → Bool
level_valid last l = all_of bounds_in_range l.box && all_of (reasons_valid last) l.reasons

unfoldable pub levels_valid : Core → Bool
levels_valid c = all_of (level_valid (length c.inputs + c.made)) (levels c)

-- a frame inside the one above
unfoldable pub inside : Bounds → Bounds → Bool
inside b o = le_z o.lower b.lower && le_z b.upper o.upper

unfoldable pub box_inside : Box → Box → Bool
box_inside box outer = all_pairs inside box outer

-- its decided quantity: in range, open above, and both bounds at the upper frame's L below
unfoldable pub decision_valid : ℕ → ℕ → Box → Box → Bool
decision_valid n i box outer =
    all (
    ltb i n ∷
    lt_z (lower_at outer i) (upper_at outer i) ∷
    equalℤ (lower_at box i) (lower_at outer i) ∷
    equalℤ (upper_at box i) (lower_at outer i) ∷
    [])

unfoldable pub nested_valid : ℕ → Level → List Level → Bool
nested_valid n l [] = true
nested_valid n l (o ∷ ls) = box_inside l.box o.box && (decision_valid n l.decided l.box o.box && nested_valid n o ls)

-- the marks
unfoldable pub falsifies : Box → Constraint → Bool
falsifies box k = falsified k box

unfoldable pub any_falsified : Core → Level → Bool
any_falsified c l = any_of (falsifies l.box) (kept c)

-- level 0
unfoldable pub outermost : Level → List Level → Level
outermost l [] = l
outermost l (o ∷ ls) = outermost o ls

unfoldable pub status_valid : Core → Status → Bool
status_valid c undecided = true
status_valid c infeasible = any_falsified c (outermost c.deepest c.outer)
status_valid c solved = not (any_of is_open c.deepest.box) && not (any_falsified c c.deepest)

-- N6: the thresholds, and no bound of a frame from 1 to its threshold less one
unfoldable pub level_allowed : List ℤ → Level → Bool
level_allowed ts l = all_pairs outside_gap ts l.box

unfoldable pub thresholds_valid : Core → Bool
thresholds_valid c = all_of is_threshold c.thresholds && all_of (level_allowed c.thresholds) (levels c)

unfoldable pub valid : Search → Bool
valid s =
    all (
    scalars_valid s ∷
    constraints_valid s.core ∷
    divisors_valid s.core ∷
    numbers_valid s.core ∷
    levels_valid s.core ∷
    nested_valid s.core.variables s.core.deepest s.core.outer ∷
    status_valid s.core s.status ∷
    thresholds_valid s.core ∷
    [])

-- N5's limit. It stands apart from what every turn keeps: a turn may pass it, and then the next call refuses the state.
unfoldable pub within_limit : Search → Bool
within_limit s = leb s.propagations max_propagations

-- what a call takes
unfoldable pub admitted : Search → Bool
admitted s = valid s && within_limit s

-- ---- the shape of a state: its lists are as long as its numbers say, and its cuts carry no divisor. Every state that the code can hold has it, so no call tests it.
unfoldable pub level_shaped : ℕ → Level → Bool
level_shaped n l = eqb (length l.box) n && eqb (length l.reasons) n

unfoldable pub constraint_shaped : ℕ → Constraint → Bool
constraint_shaped n k = eqb (length k.coefficients) n

unfoldable pub shaped : Core → Bool
shaped c =
    all (
    all_of (level_shaped c.variables) (levels c) ∷
    all_of (constraint_shaped c.variables) (kept c) ∷
    all_of is_inequality c.cuts ∷
    eqb (length c.cuts) (min c.made max_cuts) ∷
    [])
