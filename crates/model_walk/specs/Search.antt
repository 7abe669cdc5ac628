-- Document 01, 'The walk': the search state, and opening one.
use Rattle.std.specs.Prelude.{ℕ, zero, suc, ◌+◌, ◌-◌, cond, List, [], ◌∷◌, ◌++◌, map, ltb, ℤ, get_or, set, length, drop, replicate}
use Rattle.std.proofs.Math.Option.{Option, none}
use Rattle.std.proofs.Math.ListN.{get_elem?}
use Rattle.model_problems.specs.Ranges.{max_cuts}
use Rattle.model_problems.specs.Constraint.{Constraint, Box, set_lower, set_upper, lower_at, rounded}
use Rattle.model_problems.specs.Threshold.{threshold_at, lifted, sunk, next_value}
use Rattle.model_problems.specs.Problem.{Problem, variables, Result, ok, error}
use Rattle.model_files.specs.File.{read_file}

-- ---- levels
-- The 'cause' of a bound: 'limit', a line's number, 'decision', 'turned'.
pub data Reason : Type 0 where
  domain decision flipped : Reason
  constraint : ℕ → Reason

pub record Reasons : Type 0 where
  pub lower : Reason
  pub upper : Reason

abbrev pub no_reasons : Reasons
no_reasons = record { lower = domain; upper = domain }

-- A 'frame'. The 'decided quantity' of level 0 has no meaning.
pub record Level : Type 0 where
  pub box : Box
  pub reasons : List Reasons
  pub decided : ℕ

unfoldable pub reasons_at : List Reasons → ℕ → Reasons
reasons_at rs i = get_or rs i no_reasons

unfoldable pub set_lower_reason : ℕ → Reason → List Reasons → List Reasons
set_lower_reason i r rs = set rs i (record { lower = r; upper = (reasons_at rs i).upper })

unfoldable pub set_upper_reason : ℕ → Reason → List Reasons → List Reasons
set_upper_reason i r rs = set rs i (record { lower = (reasons_at rs i).lower; upper = r })

-- variable i's lower bound is v, for reason r
unfoldable pub hold_lower : ℕ → ℤ → Reason → Level → Level
hold_lower i v r l = record { box = set_lower i v l.box; reasons = set_lower_reason i r l.reasons; decided = l.decided }

-- variable i's upper bound is v, for reason r
unfoldable pub hold_upper : ℕ → ℤ → Reason → Level → Level
hold_upper i v r l = record { box = set_upper i v l.box; reasons = set_upper_reason i r l.reasons; decided = l.decided }

-- variable i's lower bound rises to v, and its upper bound falls to v, past the gap below its threshold
unfoldable pub raise_lower : List ℤ → ℕ → ℤ → Reason → Level → Level
raise_lower ts i v r l = hold_lower i (lifted (threshold_at ts i) v) r l

unfoldable pub lower_upper : List ℤ → ℕ → ℤ → Reason → Level → Level
lower_upper ts i v r l = hold_upper i (sunk (threshold_at ts i) v) r l

-- the level of a new decision: a copy with U = L at variable i
unfoldable pub decide_at : ℕ → Level → Level
decide_at i l =
    record { box = set_upper i (lower_at l.box i) l.box; reasons = set_upper_reason i decision l.reasons; decided = i }

-- the decision at variable i turned over: its lower bound rises to the next value
unfoldable pub flip_at : List ℤ → ℕ → Level → Level
flip_at ts i l = hold_lower i (next_value (threshold_at ts i) (lower_at l.box i)) flipped l

-- ---- the state
-- What the search works on: 'n', the thresholds, the input lines rounded, the kept cuts with their stored numbers, oldest first, 'cuts made', and the levels: the
-- deepest, and the others from the next one out to level 0. 'm' is the number of inputs and the 'depth' that of outer levels.
pub record Core : Type 0 where
  pub variables : ℕ
  pub thresholds : List ℤ
  pub inputs : List Constraint
  pub cuts : List Constraint
  pub numbers : List ℕ
  pub made : ℕ
  pub deepest : Level
  pub outer : List Level

-- The 'mark'.
pub data Status : Type 0 where
  undecided infeasible solved : Status

-- A 'walk'. Conflicts are its 'dead ends', propagations N5's 'bounds set by lines'.
pub record Search : Type 0 where
  pub core : Core
  pub budget : ℕ
  pub conflicts : ℕ
  pub propagations : ℕ
  pub status : Status

unfoldable pub depth : Core → ℕ
depth c = length c.outer

unfoldable pub levels : Core → List Level
levels c = c.deepest ∷ c.outer

unfoldable pub with_levels : Core → Level → List Level → Core
with_levels c l ls = record { variables = c.variables; thresholds = c.thresholds; inputs = c.inputs; cuts = c.cuts; numbers = c.numbers; made = c.made; deepest = l; outer = ls }

unfoldable pub with_deepest : Core → Level → Core
with_deepest c l = with_levels c l c.outer

-- ---- the kept lines, by position: the inputs, then the kept cuts
unfoldable pub kept : Core → List Constraint
kept c = c.inputs ++ c.cuts

-- how many cuts were made and are no longer kept
unfoldable pub dropped : Core → ℕ
dropped c = c.made - max_cuts

-- the number of the kept constraint at a position: inputs have 1 to m, and cut number m + k is the k-th that was made
unfoldable pub number_at : Core → ℕ → ℕ
number_at c p = cond (ltb p (length c.inputs)) (suc p) (suc (p + dropped c))

-- the kept constraint with a number, if it is kept
unfoldable pub kept_number : Core → ℕ → Option Constraint
kept_number c zero = none
kept_number c (suc k) =
    cond (ltb k (length c.inputs)) (get_elem? c.inputs k)
    (cond (ltb k (length c.inputs + dropped c)) none (get_elem? c.cuts (k - (length c.inputs + dropped c))))

-- the number that the next cut made will have
unfoldable pub next_number : Core → ℕ
next_number c = suc (length c.inputs + c.made)

-- 'the 64 newest cuts'
unfoldable pub newest : {A : Type 0} → List A → List A
newest xs = drop (length xs - max_cuts) xs

-- a cut made and kept
unfoldable pub keep : Constraint → Core → Core
keep cut c =
    record {
      variables = c.variables;
      thresholds = c.thresholds;
      inputs = c.inputs;
      cuts = newest (c.cuts ++ (cut ∷ []));
      numbers = newest (c.numbers ++ (next_number c ∷ []));
      made = suc c.made;
      deepest = c.deepest;
      outer = c.outer;
    }

-- ---- 'opening'
unfoldable pub level_of : Problem → Level
level_of p = record { box = p.domain; reasons = replicate (variables p) no_reasons; decided = 0 }

unfoldable pub core_of : Problem → Core
core_of p =
    record { variables = variables p; thresholds = p.thresholds; inputs = map rounded p.constraints; cuts = []; numbers = []; made = 0; deepest = level_of p; outer = [] }

unfoldable pub open_problem : Problem → Search
open_problem p = record { core = core_of p; budget = p.budget; conflicts = 0; propagations = 0; status = undecided }

unfoldable pub opened_by : Result Problem → Result Search
opened_by (ok p) = ok (open_problem p)
opened_by (error e) = error e

-- opening the bytes of a file
unfoldable pub open_file : List ℕ → Result Search
open_file f = opened_by (read_file f)
