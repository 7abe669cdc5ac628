-- A conflict, on every valid state: the cut is in range, falsified at the deepest level and met by what meets the kept constraints; keeping it and
-- going back leave a valid state.
use Prim.Native.Nat.{ℕ, suc, ◌-◌, ◌≤◌, ◌<◌}
use native.Mathlib.Omega.{arith}
use mathlib.Core.Bool.{◌&&◌}
use mathlib.Core.List.{List, [], ◌∷◌}
use mathlib.Core.Option.{Option, none, some}
use mathlib.Core.Path.{◌≡◌, refl, sym, ◌∙◌}
use lib.Dec.{T}
use lib.ListN.{get_or, length, drop}
use Rattle.model_problems.specs.Lists.{any_of}
use Rattle.model_problems.specs.Constraint.{Constraint, Box, falsified, resolvent, in_range}
use Rattle.model_files.specs.File.{no_constraint}
use Rattle.model_walk.specs.Search.{Level, Core, depth, levels, kept, keep}
use Rattle.model_walk.specs.Conflict.{analyze, first_equal, numbered_by, numbered, backjump_level, back_up}
use Rattle.model_walk.specs.Validity.{falsifies, outermost}
use Rattle.model_problems.specs.Points.{Point, Meets}
use Rattle.integer.specs.Tests.{and_left, and_right}
use Rattle.validity.proofs.Constraints.{Inequality, resolvent-length, resolvent-meets, resolvent-inequality}
use Rattle.validity.proofs.Moves.{Falsifies}
use Rattle.validity.proofs.States.{Every, ConstraintFits, CoreFits}
use Rattle.validity.proofs.Elements.{every-get_d, Holds}
use Rattle.validity.proofs.Analysis.{analysis-keeps}
use Rattle.validity.proofs.Keeping.{keep-every, keep-fits, equal-falsifies, keep-falsifies}
use Rattle.validity.proofs.Backjump.{least-default, drop-outer, back_from_lem}

-- ---- analysis, at an inequality
pub record Learned (c : Core) (k : Constraint) : Type 0 where
  pub fits : ConstraintFits c.variables k
  pub inequality : Inequality k
  pub false : T (falsified k c.deepest.box)

pub analyze-learned : (c : Core) (j : ℕ) → CoreFits c → Falsifies (kept c) c.deepest.box j → Inequality (get_or (kept c) j no_constraint) →
    Learned c (analyze c (get_or (kept c) j no_constraint)).cut
unfolding analyze
analyze-learned c j h f own =
    analysis-keeps c (Learned c) (ConstraintFits c.variables) h.constraints step c.variables _ []
    (record { fits = every-get_d (ConstraintFits c.variables) (kept c) j no_constraint f.at h.constraints; inequality = own; false = f.false })
  where
    step : (i : ℕ) (f j : Constraint) → Learned c f → ConstraintFits c.variables j → Inequality j → T (in_range (resolvent i f j) && falsified (resolvent i f j) c.deepest.box) →
        Learned c (resolvent i f j)
    step i f j l g e t =
        let size = resolvent-length i f j (l.fits.size ∙ sym g.size) ∙ l.fits.size in
        let range = in_range (resolvent i f j) in
        let false = falsified (resolvent i f j) c.deepest.box in
        record { fits = record { range = and_left range false t; size = size }; inequality = resolvent-inequality i f j; false = and_right range false t }

-- a falsified constraint gives a falsified cut, in every state
pub analyze-false : (c : Core) (f : Constraint) → T (falsified f c.deepest.box) → T (falsified (analyze c f).cut c.deepest.box)
unfolding analyze
analyze-false c f t =
    analysis-keeps c (λ k. T (falsified k c.deepest.box)) (λ k. Unit {0}) (anything (kept c))
    (λ i f j h g e o. and_right (in_range (resolvent i f j)) (falsified (resolvent i f j) c.deepest.box) o) c.variables f [] t
  where
    anything : (ks : List Constraint) → Every (λ k. Unit {0}) ks
    anything [] = tt
    anything (k ∷ ks) = (tt, anything ks)

-- the inequalities of a list are met
abbrev pub MeetsInequalities : Point → List Constraint → Type 0
MeetsInequalities x ks = Every (λ k. Inequality k → Meets x k) ks

-- a constraint of the state's size that x meets if it is an inequality
record Met (c : Core) (x : Point) (k : Constraint) : Type 0 where
  size : length k.coefficients ≡ c.variables
  meets : Inequality k → Meets x k

-- what meets the kept inequalities meets the cut
pub analyze-meets : (c : Core) (j : ℕ) (x : Point) → CoreFits c → j < length (kept c) → Inequality (get_or (kept c) j no_constraint) → MeetsInequalities x (kept c) →
    Meets x (analyze c (get_or (kept c) j no_constraint)).cut
unfolding analyze
analyze-meets c j x h l own m =
    let r = analysis-keeps c cut (Met c x) (met-kept (kept c) h.constraints m) step c.variables _ []
    (every-get_d (Met c x) (kept c) j no_constraint l (met-kept (kept c) h.constraints m), own) in
    r.0.meets r.1
  where
    cut : Constraint → Type 0
    cut k = Met c x k × Inequality k

    met-kept : (ks : List Constraint) → Every (ConstraintFits c.variables) ks → MeetsInequalities x ks → Every (Met c x) ks
    met-kept [] f g = tt
    met-kept (k ∷ ks) f g = (record { size = f.0.size; meets = g.0 }, met-kept ks f.1 g.1)

    step : (i : ℕ) (f j : Constraint) → cut f → Met c x j → Inequality j → T (in_range (resolvent i f j) && falsified (resolvent i f j) c.deepest.box) → cut (resolvent i f j)
    step i f j a b own t =
        let e = a.0.size ∙ sym b.size in (
          record { size = resolvent-length i f j e ∙ a.0.size; meets = λ z. resolvent-meets i f j x e a.1 own (a.0.meets a.1) (b.meets own) },
          resolvent-inequality i f j,
        )

-- ---- numbering and keeping
-- what numbering leaves as it was
pub record Keeps (c d : Core) : Type 0 where
  pub variables : d.variables ≡ c.variables
  pub thresholds : d.thresholds ≡ c.thresholds
  pub inputs : d.inputs ≡ c.inputs
  pub deepest : d.deepest ≡ c.deepest
  pub outer : d.outer ≡ c.outer
  pub made : d.made ≤ suc c.made

pub keeps-all : (c : Core) → Keeps c c
keeps-all c = record { variables = refl; thresholds = refl; inputs = refl; deepest = refl; outer = refl; made = omega arith }

pub numbered-keeps : (c : Core) (k : Constraint) → Keeps c (numbered c k).core
unfolding numbered numbered_by keep
numbered-keeps c k = go (first_equal 0 (kept c) k)
  where
    go : (o : Option ℕ) → Keeps c (numbered_by c k o).core
    go none = record { variables = refl; thresholds = refl; inputs = refl; deepest = refl; outer = refl; made = omega arith }
    go (some i) = keeps-all c

pub numbered-fits : (c : Core) (k : Constraint) → CoreFits c → ConstraintFits c.variables k → Inequality k → CoreFits (numbered c k).core
unfolding numbered numbered_by
numbered-fits c k h g e = go (first_equal 0 (kept c) k)
  where
    go : (o : Option ℕ) → CoreFits (numbered_by c k o).core
    go none = keep-fits c k h g e
    go (some i) = h

pub numbered-every : (p : Constraint → Type 0) (c : Core) (k : Constraint) → Every p (kept c) → p k → Every p (kept (numbered c k).core)
unfolding numbered numbered_by
numbered-every p c k h g = go (first_equal 0 (kept c) k)
  where
    go : (o : Option ℕ) → Every p (kept (numbered_by c k o).core)
    go none = keep-every p c k h g
    go (some i) = h

-- a box that falsifies the cut falsifies a constraint that is kept afterwards
pub numbered-falsifies : (c : Core) (k : Constraint) (box : Box) → T (falsified k box) → T (any_of (falsifies box) (kept (numbered c k).core))
unfolding numbered numbered_by
numbered-falsifies c k box t = go (first_equal 0 (kept c) k) (equal-falsifies k box 0 (kept c) t)
  where
    go : (o : Option ℕ) → Holds (λ i. T (any_of (falsifies box) (kept c))) o → T (any_of (falsifies box) (kept (numbered_by c k o).core))
    go none h = keep-falsifies c k box t
    go (some i) h = h

-- ---- the backjump level
pub record Back (k : Constraint) (c : Core) (d : ℕ) : Type 0 where
  pub reach : d ≤ depth c
  -- the level at depth d, the first after the deeper ones are dropped, and all deeper ones falsify the cut
  pub rest : List Level
  pub level : Level
  pub dropped : drop (depth c - d) (levels c) ≡ level ∷ rest
  pub false : T (falsified k level.box)

pub backjump-back : (k : Constraint) (c : Core) → T (falsified k c.deepest.box) → Back k c (backjump_level k c)
unfolding backjump_level levels depth
backjump-back k c t =
    let r = least-default k c.deepest c.outer t in
    let h = r.reach in
    let e : length c.outer - backjump_level k c ≡ suc (length c.outer) - suc (backjump_level k c) = omega arith in
    record { reach = omega arith; rest = r.rest; level = r.level; dropped = rw e r.dropped; false = r.false }

-- at level 0
pub back-outermost : (k : Constraint) (c : Core) → Back k c 0 → T (falsified k (outermost c.deepest c.outer).box)
unfolding depth levels
back-outermost k c b =
    let e : length c.outer - 0 ≡ length c.outer = omega arith in
    let d : drop (length c.outer) (levels c) ≡ b.level ∷ b.rest = rw e at b.dropped in
    let o = drop-outer c.deepest c.outer in
    let same : b.level ≡ outermost c.deepest c.outer = cc in
    rw same at b.false

-- ---- going back to any level
pub back_fits : (d : ℕ) (c : Core) → CoreFits c → d < depth c → CoreFits (back_up (suc d) c)
unfolding back_up depth levels
back_fits d c h b = back_from_lem c h (depth c - suc d) c.deepest c.outer (omega arith) h.levels h.outside h.stacked
