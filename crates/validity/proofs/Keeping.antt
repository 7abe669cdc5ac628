-- Keeping a cut: the state stays valid, and a box that falsifies the cut falsifies a constraint that is kept.
use Prim.Native.Nat.{ℕ, suc, ◌+◌, ◌-◌, min}
use native.Mathlib.Omega.{arith}
use mathlib.Core.Bool.{Bool}
use mathlib.Core.List.{List, [], ◌∷◌, ◌++◌}
use mathlib.Core.Option.{some}
use mathlib.Core.Path.{◌≡◌, sym, subst, ap, ap₂, ◌∙◌}
use lib.Dec.{T, leb, leb→le, le→leb}
use lib.ListN.{length, drop, length-append, length-drop}
use lib.Seq.{drop-append-le}
use Rattle.model_problems.specs.Lists.{tab, any_of}
use Rattle.model_problems.specs.Ranges.{max_cuts}
use Rattle.model_problems.specs.Constraint.{Constraint, Box, falsified, equal}
use Rattle.model_walk.specs.Search.{Reason, domain, decision, flipped, constraint, Reasons, Level, Core, levels, kept, dropped, next_number, newest, keep}
use Rattle.model_walk.specs.Conflict.{first_equal}
use Rattle.model_walk.specs.Validity.{cut_number, reason_valid, reasons_valid, falsifies}
use Rattle.integer.specs.Tests.{and_in, and_left, and_right, or_left, or_right}
use Rattle.lists.proofs.Bools.{true_of, T_of}
use Rattle.lists.proofs.Tab.{length-tab, tab-drop, tab-more, tab-shift}
use Rattle.lists.proofs.AllOf.{all_of-weaker}
use Rattle.lists.proofs.AnyOf.{any_of-append}
use Rattle.validity.proofs.Tests.{same-constraint}
use Rattle.validity.proofs.Constraints.{Inequality}
use Rattle.validity.proofs.States.{Every, ConstraintFits, LevelFits, CoreFits}
use Rattle.validity.proofs.Elements.{every-left, every-right, every_append, every_drop, every_map, Holds, holds-map, holds-cond}

cuts-every : (p : Constraint → Type 0) (c : Core) (k : Constraint) → Every p c.cuts → p k → Every p (keep k c).cuts
unfolding keep newest
cuts-every p c k h g = let cuts = c.cuts ++ (k ∷ []) in every_drop p (length cuts - max_cuts) cuts (every_append p c.cuts (k ∷ []) h (g, tt))

pub keep-every : (p : Constraint → Type 0) (c : Core) (k : Constraint) → Every p (kept c) → p k → Every p (kept (keep k c))
unfolding kept keep newest
keep-every p c k h g = every_append p c.inputs _ (every-left p c.inputs c.cuts h) (unfold keep newest in cuts-every p c k (every-right p c.inputs c.cuts h) g)

-- the highest number grows
reason-more : (last : ℕ) (r : Reason) → T (reason_valid last r) → T (reason_valid (suc last) r)
unfolding reason_valid
reason-more last domain t = tt
reason-more last decision t = tt
reason-more last flipped t = tt
reason-more last (constraint k) t =
    and_in (leb 1 k) (leb k (suc last)) (and_left (leb 1 k) (leb k last) t) (le→leb k (suc last) (omega (arith, leb→le k last (and_right (leb 1 k) (leb k last) t))))

reasons-more : (last : ℕ) (r : Reasons) → T (reasons_valid last r) → T (reasons_valid (suc last) r)
unfolding reasons_valid
reasons-more last r t =
    and_in (reason_valid (suc last) r.lower) _ (reason-more last r.lower (and_left (reason_valid last r.lower) _ t))
    (reason-more last r.upper (and_right (reason_valid last r.lower) _ t))

level-more : (n last : ℕ) (l : Level) → LevelFits n last l → LevelFits n (suc last) l
level-more n last l h =
    record {
      box = h.box;
      reasons = h.reasons;
      range = h.range;
      valid-reasons = T_of (all_of-weaker (reasons_valid last) (reasons_valid (suc last)) (λ r e. true_of _ (reasons-more last r (T_of e))) l.reasons (true_of _ h.valid-reasons));
    }

-- one cut more; past max_cuts the oldest goes
keep-cuts : (c : Core) (k : Constraint) → CoreFits c → length (keep k c).cuts ≡ min (suc c.made) max_cuts
unfolding keep newest
keep-cuts c k h = let e = h.cuts in simp (length-drop, length-append) (omega arith)

newest-tab : (f : ℕ → ℕ) (n : ℕ) → newest (tab f 0 n) ≡ tab f (n - max_cuts) (n - (n - max_cuts))
unfolding newest
newest-tab f n = let e : 0 + (n - max_cuts) ≡ n - max_cuts = omega arith in rw (length-tab f 0 n, tab-drop f 0 (n - max_cuts) n, e)

keep-numbers : (c : Core) (k : Constraint) → CoreFits c → (keep k c).numbers ≡ tab (cut_number (keep k c)) 0 (length (keep k c).cuts)
unfolding keep next_number cut_number dropped
keep-numbers c k h =
    let n = length c.cuts in
    let e = h.cuts in
    let l = keep-cuts c k h in
    let next : next_number c ≡ cut_number c n = omega arith in
    let numbers : c.numbers ++ (next_number c ∷ []) ≡ tab (cut_number c) 0 (n + 1) = ap₂ (λ (ns : List ℕ) (i : ℕ). ns ++ (i ∷ [])) h.numbers next ∙ sym (tab-more (cut_number c) n) in
    ap newest numbers ∙ newest-tab (cut_number c) (n + 1) ∙
    tab-shift (cut_number c) (cut_number (keep k c)) (n + 1 - max_cuts) 0 (n + 1 - (n + 1 - max_cuts)) (λ j b. omega arith) ∙ ap (tab (cut_number (keep k c)) 0) (omega arith)

pub keep-fits : (c : Core) (k : Constraint) → CoreFits c → ConstraintFits c.variables k → Inequality k → CoreFits (keep k c)
unfolding keep levels
keep-fits c k h g i =
    let n = c.variables in
    let last = length c.inputs + c.made in
    let e : length c.inputs + suc c.made ≡ suc last = omega arith in
    record {
      constraints = keep-every (ConstraintFits n) c k h.constraints g;
      divisors = h.divisors;
      inequalities = unfold keep in cuts-every Inequality c k h.inequalities i;
      cuts = keep-cuts c k h;
      numbers = keep-numbers c k h;
      thresholds = h.thresholds;
      outside = h.outside;
      levels = subst (λ (t : ℕ). Every (LevelFits n t) (levels c)) (sym e) (every_map (LevelFits n last) (LevelFits n (suc last)) (levels c) (level-more n last) h.levels);
      stacked = h.stacked;
    }

-- ---- an equal constraint
-- a position that is found shows a constraint that the box falsifies
pub equal-falsifies : (k : Constraint) (box : Box) (p : ℕ) (ks : List Constraint) → T (falsified k box) → Holds (λ i. T (any_of (falsifies box) ks)) (first_equal p ks k)
unfolding first_equal any_of falsifies
equal-falsifies k box p [] t = tt
equal-falsifies k box p (l ∷ ks) t =
    holds-cond (λ i. T (any_of (falsifies box) (l ∷ ks))) (equal k l) (some p) _
    (λ e. or_left (falsified l box) _ (rw (same-constraint k l e) at t))
    (holds-map (λ i. T (any_of (falsifies box) ks)) _ (first_equal (suc p) ks k) (λ i h. or_right (falsified l box) _ h) (equal-falsifies k box (suc p) ks t))

any-right : (t : Constraint → Bool) (xs ys : List Constraint) → T (any_of t ys) → T (any_of t (xs ++ ys))
any-right t xs ys h = rw any_of-append (or_right (any_of t xs) (any_of t ys) h)

-- the newest cut is kept
pub keep-falsifies : (c : Core) (k : Constraint) (box : Box) → T (falsified k box) → T (any_of (falsifies box) (kept (keep k c)))
unfolding kept keep newest any_of falsifies
keep-falsifies c k box t =
    let l = length (c.cuts ++ (k ∷ [])) - max_cuts in
    any-right (falsifies box) c.inputs (drop l (c.cuts ++ (k ∷ [])))
    (rw (drop-append-le l c.cuts (k ∷ []) (omega (arith, length-append c.cuts (k ∷ []))))
    (any-right (falsifies box) (drop l c.cuts) (k ∷ []) (or_left (falsified k box) _ t)))
