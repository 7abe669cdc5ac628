-- Validity and shape of a state, as facts in place of tests, and how the moves keep them. Every valid state is covered, made-up ones too.
use Prim.Native.Nat.{ℕ, ◌+◌, ◌≤◌, ◌<◌, min}
use native.Mathlib.Omega.{arith}
use mathlib.Core.Bool.{◌&&◌}
use mathlib.Core.List.{List, [], ◌∷◌}
use mathlib.Core.Path.{◌≡◌, sym, ap, ◌∙◌}
use lib.Dec.{T, eqb, leb→le, le→leb, ltb→lt, lt→ltb, eqb→eq}
use lib.IntN.{ℤ}
use lib.ListN.{set, length, length-set}
use lib.Seq.{get_or-set_same}
use mir.Facts.{and_yes, yes_and}
use Rattle.model_problems.specs.Lists.{tab, all_of}
use Rattle.model_problems.specs.Ranges.{max_variables, max_constraints, max_cuts, max_budget}
use Rattle.model_problems.specs.Constraint.{Constraint, Bounds, Box, no_bounds, lower_at, upper_at, set_upper, is_inequality, in_range, divisor_in_range}
use Rattle.model_problems.specs.Threshold.{is_threshold}
use Rattle.model_problems.specs.Problem.{bounds_in_range}
use Rattle.model_walk.specs.Search.{constraint, Reasons, Level, Core, Search, reasons_at, set_lower_reason, set_upper_reason, depth, levels, with_levels, with_deepest, kept, dropped, number_at, hold_lower, hold_upper, raise_lower, lower_upper, decide_at}
use Rattle.model_walk.specs.Validity.{scalars_valid, constraints_valid, divisors_valid, cut_number, numbers_valid, reason_valid, reasons_valid, level_valid, levels_valid, box_inside, decision_valid, nested_valid, status_valid, level_allowed, thresholds_valid, valid, level_shaped, constraint_shaped, shaped}
use Rattle.integer.specs.Parts.{◌⊏◌, lt_in, lt_out, eq-in}
use Rattle.lists.proofs.Bools.{true_of, T_of}
use Rattle.lists.proofs.AllOf.{all_of-set}
use Rattle.validity.proofs.Boxes.{Ordered, Nested, first-open, nested-length, nested-trans, low_half, low-nested, low-ordered, low-outside}
use Rattle.validity.proofs.Thresholds.{Outside, outside-in, outside-out}
use Rattle.validity.proofs.Constraints.{Inequality, inequality-in, inequality-out}
use Rattle.validity.proofs.Moves.{Raises, Lowers, Decides}
use Rattle.validity.proofs.Shrinking.{raise-shrinks, lower-shrinks}
use Rattle.validity.proofs.Every.{◌&◌, all_in, all-out, every_of, every_in, every-out}
use Rattle.validity.proofs.Tests.{equal-in, equal-refl, eqb-out, numbers-in, numbers-out, nested-in, nested-out, range-ordered, range-nested, fixed-nested, valid-reasons-at, number-valid}
use Rattle.validity.proofs.Depth.{opens, opens-few, opens-decided}
pub use Rattle.validity.proofs.Every.{Every}

pub record ConstraintFits (n : ℕ) (k : Constraint) : Type 0 where
  pub range : T (in_range k)
  pub size : length k.coefficients ≡ n

-- a level by itself; `last` is the highest number of a constraint
pub record LevelFits (n last : ℕ) (l : Level) : Type 0 where
  pub box : length l.box ≡ n
  pub reasons : length l.reasons ≡ n
  pub range : T (all_of bounds_in_range l.box)
  pub valid-reasons : T (all_of (reasons_valid last) l.reasons)

-- a level l right under the level o
pub record Under (n : ℕ) (l o : Level) : Type 0 where
  pub inside : Nested l.box o.box
  pub variable : l.decided < n
  pub wide : lower_at o.box l.decided ⊏ upper_at o.box l.decided
  pub lower : lower_at l.box l.decided ≡ lower_at o.box l.decided
  pub upper : upper_at l.box l.decided ≡ lower_at o.box l.decided

abbrev pub Stacked : ℕ → Level → List Level → Type 0
Stacked n l [] = Unit {0}
Stacked n l (o ∷ ls) = Under n l o × Stacked n o ls

-- no bound lies below its threshold but above 0
abbrev pub LevelOutside : List ℤ → Level → Type 0
LevelOutside ts l = Outside ts l.box

pub record CoreFits (c : Core) : Type 0 where
  pub constraints : Every (ConstraintFits c.variables) (kept c)
  pub divisors : T (all_of divisor_in_range c.inputs)
  pub inequalities : Every Inequality c.cuts
  pub cuts : length c.cuts ≡ min c.made max_cuts
  pub numbers : c.numbers ≡ tab (cut_number c) 0 (length c.cuts)
  pub thresholds : T (all_of is_threshold c.thresholds)
  pub outside : Every (LevelOutside c.thresholds) (levels c)
  pub levels : Every (LevelFits c.variables (length c.inputs + c.made)) (levels c)
  pub stacked : Stacked c.variables c.deepest c.outer

-- the sizes and counters of a state
pub record Sizes (s : Search) : Type 0 where
  pub some : 1 ≤ s.core.variables
  pub few : s.core.variables ≤ max_variables
  pub inputs : length s.core.inputs ≤ max_constraints
  pub budget : s.budget ≤ max_budget
  pub conflicts : s.conflicts ≤ s.budget
  pub made : s.core.made ≤ s.conflicts

-- ---- the tests one by one
under-in : (n : ℕ) (l o : Level) → T (box_inside l.box o.box) → T (decision_valid n l.decided l.box o.box) → Under n l o
unfolding decision_valid
under-in n l o s t =
    let i = l.decided in
    let h = all_in _ t in
    record {
      inside = nested-in l.box o.box s;
      variable = ltb→lt i n h.0;
      wide = lt_in (lower_at o.box i) (upper_at o.box i) h.1.0;
      lower = equal-in (lower_at l.box i) (lower_at o.box i) h.1.1.0;
      upper = equal-in (upper_at l.box i) (lower_at o.box i) h.1.1.1.0;
    }

decision-out : (n : ℕ) (l o : Level) → Under n l o → T (decision_valid n l.decided l.box o.box)
unfolding decision_valid
decision-out n l o u =
    let i = l.decided in
    let low = lower_at o.box i in
    all-out _ (lt→ltb i n u.variable & lt_out low (upper_at o.box i) u.wide & rw u.lower (equal-refl low) & rw u.upper (equal-refl low) & tt)

stacked-in : (n : ℕ) (l : Level) (ls : List Level) → T (nested_valid n l ls) → Stacked n l ls
unfolding nested_valid
stacked-in n l [] t = tt
stacked-in n l (o ∷ ls) t =
    let decided = decision_valid n l.decided l.box o.box in
    let h = and_yes (box_inside l.box o.box) (decided && nested_valid n o ls) t in
    let i = and_yes decided (nested_valid n o ls) h.1 in
    (under-in n l o h.0 i.0, stacked-in n o ls i.1)

stacked-out : (n : ℕ) (l : Level) (ls : List Level) → Stacked n l ls → T (nested_valid n l ls)
unfolding nested_valid
stacked-out n l [] s = tt
stacked-out n l (o ∷ ls) s =
    let decided = decision_valid n l.decided l.box o.box in
    yes_and (box_inside l.box o.box) (decided && nested_valid n o ls) (nested-out l.box o.box s.0.inside)
    (yes_and decided (nested_valid n o ls) (decision-out n l o s.0) (stacked-out n o ls s.1))

level_in : (n last : ℕ) (l : Level) → T (level_shaped n l) → T (level_valid last l) → LevelFits n last l
unfolding level_shaped level_valid
level_in n last l s t =
    let h = and_yes (eqb (length l.box) n) (eqb (length l.reasons) n) s in
    let i = and_yes (all_of bounds_in_range l.box) (all_of (reasons_valid last) l.reasons) t in
    record { box = eqb→eq (length l.box) n h.0; reasons = eqb→eq (length l.reasons) n h.1; range = i.0; valid-reasons = i.1 }

level-shaped : (n last : ℕ) (l : Level) → LevelFits n last l → T (level_shaped n l)
unfolding level_shaped
level-shaped n last l f = yes_and (eqb (length l.box) n) (eqb (length l.reasons) n) (eqb-out _ _ f.box) (eqb-out _ _ f.reasons)

level-valid : (n last : ℕ) (l : Level) → LevelFits n last l → T (level_valid last l)
unfolding level_valid
level-valid n last l f = yes_and (all_of bounds_in_range l.box) (all_of (reasons_valid last) l.reasons) f.range f.valid-reasons

constraint-in : (n : ℕ) (k : Constraint) → T (in_range k) → T (constraint_shaped n k) → ConstraintFits n k
unfolding constraint_shaped
constraint-in n k t s = record { range = t; size = eqb→eq (length k.coefficients) n s }

constraint-shaped : (n : ℕ) (k : Constraint) → ConstraintFits n k → T (constraint_shaped n k)
unfolding constraint_shaped
constraint-shaped n k f = eqb-out _ _ f.size

-- ---- from the tests to the facts, and back
pub core-fits : (s : Search) → T (shaped s.core) → T (valid s) → CoreFits s.core
unfolding shaped valid constraints_valid divisors_valid numbers_valid levels_valid thresholds_valid level_allowed
core-fits s f t =
    let c = s.core in
    let n = c.variables in
    let last = length c.inputs + c.made in
    let g = all_in _ f in
    let h = all_in _ t in
    let k = and_yes (all_of is_threshold c.thresholds) (all_of (level_allowed c.thresholds) (levels c)) h.1.1.1.1.1.1.1.0 in
    record {
      constraints = every_in (ConstraintFits n) in_range (constraint_shaped n) (constraint-in n) (kept c) h.1.0 g.1.0;
      divisors = h.1.1.0;
      inequalities = every_of Inequality is_inequality inequality-in c.cuts g.1.1.0;
      cuts = eqb→eq (length c.cuts) (min c.made max_cuts) g.1.1.1.0;
      numbers = numbers-in c.numbers (tab (cut_number c) 0 (length c.cuts)) h.1.1.1.0;
      levels = every_in (LevelFits n last) (level_shaped n) (level_valid last) (level_in n last) (levels c) g.0 h.1.1.1.1.0;
      stacked = stacked-in n c.deepest c.outer h.1.1.1.1.1.0;
      thresholds = k.0;
      outside = every_of (LevelOutside c.thresholds) (level_allowed c.thresholds) (λ l a. outside-in c.thresholds l.box a) (levels c) k.1;
    }

pub sizes-fit : (s : Search) → T (valid s) → Sizes s
unfolding valid scalars_valid
sizes-fit s t =
    let h = all_in _ (all_in _ t).0 in
    record {
      some = leb→le 1 s.core.variables h.0;
      few = leb→le s.core.variables max_variables h.1.0;
      inputs = leb→le (length s.core.inputs) max_constraints h.1.1.0;
      budget = leb→le s.budget max_budget h.1.1.1.0;
      conflicts = leb→le s.conflicts s.budget h.1.1.1.1.1.0;
      made = leb→le s.core.made s.conflicts h.1.1.1.1.1.1.0;
    }

pub fits-shaped : (c : Core) → CoreFits c → T (shaped c)
unfolding shaped
fits-shaped c f =
    let n = c.variables in
    let last = length c.inputs + c.made in
    all-out _ (
    every-out (LevelFits n last) (level_shaped n) (level-shaped n last) (levels c) f.levels &
    every-out (ConstraintFits n) (constraint_shaped n) (constraint-shaped n) (kept c) f.constraints &
    every-out Inequality is_inequality inequality-out c.cuts f.inequalities &
    eqb-out _ _ f.cuts &
    tt)

-- each decision is open above and fixed below, so there are no more levels than variables
stacked-room : (n : ℕ) (l : Level) (ls : List Level) → Stacked n l ls → opens l.box + length ls ≤ length l.box
stacked-room n l [] s = omega (arith, opens-few l.box)
stacked-room n l (o ∷ ls) s =
    let u = s.0 in
    let fixed = eq-in _ _ (u.upper ∙ sym u.lower) in
    omega (arith, stacked-room n o ls s.1, nested-length l.box o.box u.inside, opens-decided l.decided l.box o.box u.inside u.wide (omega arith))

pub depth-fits : (c : Core) → CoreFits c → depth c ≤ c.variables
unfolding depth levels
depth-fits c f = omega (arith, stacked-room c.variables c.deepest c.outer f.stacked, f.levels.0.box)

scalars-valid : (s : Search) → CoreFits s.core → Sizes s → T (scalars_valid s)
unfolding scalars_valid
scalars-valid s f z =
    let c = s.core in
    all-out _ (
    le→leb 1 c.variables z.some &
    le→leb c.variables max_variables z.few &
    le→leb (length c.inputs) max_constraints z.inputs &
    le→leb s.budget max_budget z.budget &
    le→leb (depth c) c.variables (depth-fits c f) &
    le→leb s.conflicts s.budget z.conflicts &
    le→leb c.made s.conflicts z.made &
    tt)

pub fits-valid : (s : Search) → CoreFits s.core → Sizes s → T (status_valid s.core s.status) → T (valid s)
unfolding valid constraints_valid divisors_valid numbers_valid levels_valid thresholds_valid level_allowed
fits-valid s f z m =
    let c = s.core in
    let n = c.variables in
    let last = length c.inputs + c.made in
    all-out _ (
    scalars-valid s f z &
    every-out (ConstraintFits n) in_range (λ k h. h.range) (kept c) f.constraints &
    f.divisors &
    numbers-out _ _ f.numbers &
    every-out (LevelFits n last) (level_valid last) (level-valid n last) (levels c) f.levels &
    stacked-out n c.deepest c.outer f.stacked &
    m &
    yes_and (all_of is_threshold c.thresholds) (all_of (level_allowed c.thresholds) (levels c)) f.thresholds
    (every-out (LevelOutside c.thresholds) (level_allowed c.thresholds) (λ l o. outside-out c.thresholds l.box o) (levels c) f.outside) &
    tt)

-- ---- order
pub level-ordered : (n last : ℕ) (l : Level) → LevelFits n last l → Ordered l.box
level-ordered n last l f = range-ordered l.box f.range

pub deepest-outside : (c : Core) → CoreFits c → Outside c.thresholds c.deepest.box
unfolding levels
deepest-outside c f = f.outside.0

pub deepest-ordered : (c : Core) → CoreFits c → Ordered c.deepest.box
unfolding levels
deepest-ordered c f = range-ordered c.deepest.box f.levels.0.range

-- ---- a level with a smaller box
pub level-nested : (n last i d : ℕ) (l : Level) (box : Box) (r : Reasons) → LevelFits n last l → Ordered box → Nested box l.box →
    T (reason_valid last r.lower) → T (reason_valid last r.upper) → LevelFits n last (record { box = box; reasons = set l.reasons i r; decided = d })
unfolding reasons_valid
level-nested n last i d l box r f o k s t =
    let both = yes_and (reason_valid last r.lower) (reason_valid last r.upper) s t in
    record {
      box = nested-length box l.box k ∙ f.box;
      reasons = length-set l.reasons i r ∙ f.reasons;
      range = range-nested box l.box o k f.range;
      valid-reasons = T_of (all_of-set (reasons_valid last) l.reasons i r (true_of _ f.valid-reasons) (true_of _ both));
    }

stacked-nested : (n : ℕ) (l : Level) (ls : List Level) (box : Box) (rs : List Reasons) → Stacked n l ls → Ordered box → Nested box l.box →
    Stacked n (record { box = box; reasons = rs; decided = l.decided }) ls
stacked-nested n l [] box rs s r k = tt
stacked-nested n l (o ∷ ls) box rs s r k =
    let u = s.0 in
    let fixed = eq-in _ _ (u.upper ∙ sym u.lower) in
    let e = fixed-nested l.decided box l.box r k (omega arith) in
    record { inside = nested-trans box l.box o.box k u.inside; variable = u.variable; wide = u.wide; lower = e.0 ∙ u.lower; upper = e.1 ∙ u.lower } & s.1

-- ---- a state with other levels, and with a smaller box in the deepest
pub levels-fit : (c : Core) (l : Level) (ls : List Level) → CoreFits c → Every (LevelFits c.variables (length c.inputs + c.made)) (l ∷ ls) →
    Every (LevelOutside c.thresholds) (l ∷ ls) → Stacked c.variables l ls → CoreFits (with_levels c l ls)
unfolding with_levels levels kept cut_number dropped
levels-fit c l ls f h o s =
    record {
      constraints = f.constraints;
      divisors = f.divisors;
      inequalities = f.inequalities;
      cuts = f.cuts;
      numbers = f.numbers;
      levels = h;
      thresholds = f.thresholds;
      outside = o;
      stacked = s;
    }

pub deepest-nested : (c : Core) (i : ℕ) (box : Box) (r : Reasons) → CoreFits c → Ordered box → Nested box c.deepest.box → Outside c.thresholds box →
    T (reason_valid (length c.inputs + c.made) r.lower) → T (reason_valid (length c.inputs + c.made) r.upper) →
    CoreFits (with_deepest c (record { box = box; reasons = set c.deepest.reasons i r; decided = c.deepest.decided }))
unfolding with_deepest levels
deepest-nested c i box r f o k a s t =
    levels-fit c _ c.outer f
    (level-nested c.variables (length c.inputs + c.made) i c.deepest.decided c.deepest box r f.levels.0 o k s t, f.levels.1)
    (a, f.outside.1)
    (stacked-nested c.variables c.deepest c.outer box _ f.stacked o k)

-- ---- moves 2 and 3
deepest-valid-reasons : (c : Core) (i : ℕ) → CoreFits c →
    T (reason_valid (length c.inputs + c.made) (reasons_at c.deepest.reasons i).lower) × T (reason_valid (length c.inputs + c.made) (reasons_at c.deepest.reasons i).upper)
unfolding levels
deepest-valid-reasons c i f = valid-reasons-at (length c.inputs + c.made) i c.deepest.reasons f.levels.0.valid-reasons

pub raise-fits : (c : Core) (j i : ℕ) (v : ℤ) → CoreFits c → Raises (kept c) c.deepest.box j i v →
    CoreFits (with_deepest c (raise_lower c.thresholds i v (constraint (number_at c j)) c.deepest))
unfolding raise_lower hold_lower set_lower_reason
raise-fits c j i v f r =
    let s = raise-shrinks c.thresholds (kept c) c.deepest.box j i v (deepest-ordered c f) (deepest-outside c f) r in
    deepest-nested c i _ _ f s.ordered s.nested s.outside
    (number-valid c j f.cuts r.constraint) (deepest-valid-reasons c i f).1

pub lower-fits : (c : Core) (j i : ℕ) (v : ℤ) → CoreFits c → Lowers (kept c) c.deepest.box j i v →
    CoreFits (with_deepest c (lower_upper c.thresholds i v (constraint (number_at c j)) c.deepest))
unfolding lower_upper hold_upper set_upper_reason
lower-fits c j i v f r =
    let s = lower-shrinks c.thresholds (kept c) c.deepest.box j i v (deepest-ordered c f) (deepest-outside c f) r in
    deepest-nested c i _ _ f s.ordered s.nested s.outside
    (deepest-valid-reasons c i f).0 (number-valid c j f.cuts r.constraint)

-- the decided variable has its lower bound alone
low-fixed : (i : ℕ) (box : Box) → i < length box → (lower_at (low_half i box) i ≡ lower_at box i) × (upper_at (low_half i box) i ≡ lower_at box i)
unfolding low_half set_upper lower_at upper_at
low-fixed i box h =
    let same = get_or-set_same box i (record { lower = lower_at box i; upper = lower_at box i }) no_bounds h in
    (ap (λ (b : Bounds). b.lower) same, ap (λ (b : Bounds). b.upper) same)

pub decide-fits : (c : Core) (i : ℕ) → CoreFits c → Decides (kept c) c.deepest.box i → CoreFits (with_levels c (decide_at i c.deepest) (levels c))
unfolding decide_at set_upper_reason levels low_half reason_valid
decide-fits c i f d =
    let l = c.deepest in
    let o = deepest-ordered c f in
    let a = first-open i l.box d.first in
    let k = low-nested i l.box o in
    let e = low-fixed i l.box a.at in
    let size = f.levels.0.box in
    levels-fit c _ (levels c) f
    (level-nested c.variables (length c.inputs + c.made) i i l (low_half i l.box) _ f.levels.0 (low-ordered i l.box o) k (deepest-valid-reasons c i f).0 tt, f.levels)
    (low-outside i c.thresholds l.box (deepest-outside c f), f.outside)
    (record { inside = k; variable = omega arith; wide = a.wide; lower = e.0; upper = e.1 }, f.stacked)
