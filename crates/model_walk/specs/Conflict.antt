-- Document 01's dead end, with N1's: analysis, numbering and keeping the cut, the backjump level, and going back.
use Rattle.std.specs.Prelude.{ℕ, zero, suc, ◌+◌, ◌-◌, ◌&&◌, cond, List, [], ◌∷◌, ℤ, pos, negsuc, get_or, length, drop, replicate}
use Rattle.std.proofs.Math.Option.{Option, none, some}
use Rattle.model_problems.specs.Lists.{or_else, with_default}
use Rattle.model_problems.specs.Constraint.{Constraint, Box, modulus, is_inequality, coefficient_at, falsified, resolvent, opposite, in_range, equal}
use Rattle.model_files.specs.File.{no_constraint}
use Rattle.model_walk.specs.Search.{Reason, domain, decision, flipped, constraint, Reasons, Level, reasons_at, flip_at, Core, depth, levels, with_levels, kept, number_at, kept_number, next_number, keep}

-- ---- analysis: F, and the numbers of the constraints taken in, for each variable, 0 for none
pub record Analysis : Type 0 where
  pub cut : Constraint
  pub used : List ℕ

-- F after a variable, and the number taken in there
pub record Resolved : Type 0 where
  pub cut : Constraint
  pub used : ℕ

unfoldable pub unchanged : Constraint → Resolved
unchanged f = record { cut = f; used = 0 }

-- the outcome g of resolving with constraint number k is taken only if it is falsified at the deepest level and in range
unfoldable pub take_if : Box → Constraint → ℕ → Constraint → Resolved
take_if box f k g = cond (in_range g && falsified g box) (record { cut = g; used = k }) (unchanged f)

-- with J, constraint number k, at variable i
unfoldable pub resolve_with : Box → ℕ → Constraint → ℕ → Constraint → Resolved
resolve_with box i f k j = cond (opposite (coefficient_at f i) (coefficient_at j i)) (take_if box f k (resolvent i f j)) (unchanged f)

-- a divisor constraint is never combined
unfoldable pub resolve_kept : Box → ℕ → Constraint → ℕ → Option Constraint → Resolved
resolve_kept box i f k none = unchanged f
resolve_kept box i f k (some j) = cond (is_inequality j) (resolve_with box i f k j) (unchanged f)

-- with a bound's reason
unfoldable pub resolve_by : Core → ℕ → Constraint → Reason → Resolved
resolve_by c i f domain = unchanged f
resolve_by c i f decision = unchanged f
resolve_by c i f flipped = unchanged f
resolve_by c i f (constraint k) = resolve_kept c.deepest.box i f k (kept_number c k)

-- the reason of the bound that the minimum activity uses at a coefficient; at 0 it uses none, and `opposite` refuses it
unfoldable pub used_reason : ℤ → Reasons → Reason
used_reason (pos a) r = r.lower
used_reason (negsuc a) r = r.upper

unfoldable pub resolve_at : Core → ℕ → Constraint → Resolved
resolve_at c i f = resolve_by c i f (used_reason (coefficient_at f i) (reasons_at c.deepest.reasons i))

-- the variables i − 1, .., 0, with what the ones from i on used
unfoldable pub analyze_from : Core → ℕ → Constraint → List ℕ → Analysis
analyze_from c zero f used = record { cut = f; used = used }
analyze_from c (suc i) f used = let r = resolve_at c i f in analyze_from c i r.cut (r.used ∷ used)

unfoldable pub analyze : Core → Constraint → Analysis
analyze c f = analyze_from c c.variables f []

-- ---- the cut's number, and the state that keeps it
pub record Numbered : Type 0 where
  pub number : ℕ
  pub core : Core

-- the position of the first kept constraint that equals the cut
unfoldable pub first_equal : ℕ → List Constraint → Constraint → Option ℕ
first_equal p [] cut = none
first_equal p (k ∷ ks) cut = cond (equal cut k) (some p) (first_equal (suc p) ks cut)

unfoldable pub numbered_by : Core → Constraint → Option ℕ → Numbered
numbered_by c cut (some p) = record { number = number_at c p; core = c }
numbered_by c cut none = record { number = next_number c; core = keep cut c }

unfoldable pub numbered : Core → Constraint → Numbered
numbered c cut = numbered_by c cut (first_equal 0 (kept c) cut)

-- ---- 'd': the least depth whose level makes the cut, or the divisor constraint, falsified, the levels given from the deepest out
unfoldable pub least_falsified : Constraint → List Level → Option ℕ
least_falsified cut [] = none
least_falsified cut (l ∷ ls) = or_else (least_falsified cut ls) (cond (falsified cut l.box) (some (length ls)) none)

-- there is one, for the deepest level makes it falsified: the default is never reached
unfoldable pub backjump_level : Constraint → Core → ℕ
backjump_level cut c = with_default 0 (least_falsified cut (levels c))

-- N3: how many levels are tested in looking for d from the deepest outward, 'depth met − d + 2, or one less where d is 0'
unfoldable pub levels_tested : ℕ → ℕ → ℕ
levels_tested depth zero = depth + 1
levels_tested depth (suc d) = depth - suc d + 2

-- ---- going back: levels d and deeper go, and the decision of level d is flipped in level d − 1
unfoldable pub back_from : List Level → Core → Core
back_from [] c = c
back_from (l ∷ []) c = c
back_from (l ∷ o ∷ ls) c = with_levels c (flip_at c.thresholds l.decided o) ls

unfoldable pub back_up : ℕ → Core → Core
back_up d c = back_from (drop (depth c - d) (levels c)) c

-- ---- a conflict as a whole: its record's values, and the state after it
pub record Conflict : Type 0 where
  pub falsified : ℕ
  pub cut_number : ℕ
  pub depth : ℕ
  pub back : ℕ
  pub cut : Constraint
  pub used : List ℕ
  pub core : Core

-- with d = 0 the levels stay
unfoldable pub settled : ℕ → Core → Core
settled zero c = c
settled (suc d) c = back_up (suc d) c

unfoldable pub conflict_of : Core → ℕ → Analysis → Numbered → ℕ → Conflict
conflict_of c j a n d =
    record {
      falsified = number_at c j;
      cut_number = n.number;
      depth = depth c;
      back = d;
      cut = a.cut;
      used = a.used;
      core = settled d n.core;
    }

-- at an inequality: the cut is learned
unfoldable pub learning : Core → ℕ → Constraint → Conflict
learning c j k = let a = analyze c k in conflict_of c j a (numbered c a.cut) (backjump_level a.cut c)

-- at a divisor constraint: nothing is learned, and d is the least depth that falsifies the constraint itself
unfoldable pub nothing_learned : ℕ → Analysis
nothing_learned n = record { cut = record { constant = pos 0; coefficients = replicate n (pos 0); divisor = pos 0 }; used = replicate n 0 }

unfoldable pub no_learning : Core → ℕ → Constraint → Conflict
no_learning c j k = conflict_of c j (nothing_learned c.variables) (record { number = 0; core = c }) (backjump_level k c)

unfoldable pub conflict_by : ℕ → Core → ℕ → Constraint → Conflict
conflict_by zero c j k = learning c j k
conflict_by (suc q) c j k = no_learning c j k

-- at the kept constraint in position j, which the deepest level falsifies
unfoldable pub at_conflict : Core → ℕ → Conflict
at_conflict c j = let k = get_or (kept c) j no_constraint in conflict_by (modulus k) c j k
