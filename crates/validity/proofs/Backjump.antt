-- The least depth whose level falsifies a cut, and going back: a decision flipped in the level above it.
use Prim.Native.Nat.{ℕ, zero, suc, ◌+◌, ◌-◌, ◌<◌}
use native.Mathlib.Omega.{arith}
use mathlib.Core.Bool.{cond}
use mathlib.Core.List.{List, [], ◌∷◌}
use mathlib.Core.Logic.{◌≢◌}
use mathlib.Core.Option.{Option, none, some}
use mathlib.Core.Path.{◌≡◌, refl, sym, ap, ◌∙◌}
use lib.Dec.{T}
use lib.IntN.{ℤ}
use lib.ListN.{get_or, length, drop, length-set}
use lib.Seq.{get_or-set_other}
use Rattle.model_problems.specs.Lists.{all_of, or_else, with_default}
use Rattle.model_problems.specs.Constraint.{Constraint, Bounds, no_bounds, lower_at, upper_at, set_lower, falsified}
use Rattle.model_problems.specs.Threshold.{threshold_at, next_value}
use Rattle.model_walk.specs.Search.{flipped, Reasons, no_reasons, Level, reasons_at, set_lower_reason, hold_lower, flip_at, Core, levels, with_levels, kept, dropped}
use Rattle.model_walk.specs.Conflict.{least_falsified, back_from}
use Rattle.model_walk.specs.Validity.{cut_number, reason_valid, reasons_valid, outermost}
use Rattle.integer.specs.Parts.{◌⊏◌, eq-in}
use Rattle.integer.specs.Tests.{and_right}
use Rattle.lists.proofs.Bools.{true_of, T_of}
use Rattle.lists.proofs.AllOf.{all_of-get_d, all_of-set}
use Rattle.validity.proofs.Thresholds.{Outside}
use Rattle.validity.proofs.Boxes.{OpenAt, high_half, nested-trans, set-lower-length, high-nested, high-ordered, high-outside}
use Rattle.validity.proofs.Tests.{range-ordered, range-nested}
use Rattle.validity.proofs.States.{Every, LevelFits, LevelOutside, Under, Stacked, CoreFits}
use Rattle.validity.proofs.Elements.{Holds, holds-cond}

-- ---- the least depth, the levels given from the deepest out
pub record Reached (k : Constraint) (ls : List Level) (d : ℕ) : Type 0 where
  pub reach : d < length ls
  pub rest : List Level
  pub level : Level
  pub dropped : drop (length ls - suc d) ls ≡ level ∷ rest
  pub false : T (falsified k level.box)

reached-out : (k : Constraint) (l : Level) (ls : List Level) (d : ℕ) → Reached k ls d → Reached k (l ∷ ls) d
reached-out k l ls d r =
    let h = r.reach in
    let e : suc (length ls) - suc d ≡ suc (length ls - suc d) = omega arith in
    record { reach = omega arith; rest = r.rest; level = r.level; dropped = rw e r.dropped; false = r.false }

reached-here : (k : Constraint) (l : Level) (ls : List Level) → T (falsified k l.box) → Reached k (l ∷ ls) (length ls)
reached-here k l ls t =
    let e : suc (length ls) - suc (length ls) ≡ 0 = omega arith in
    record { reach = omega arith; rest = ls; level = l; dropped = rw e; false = t }

least-reached : (k : Constraint) (ls : List Level) → Holds (Reached k ls) (least_falsified k ls)
unfolding least_falsified or_else
least-reached k [] = tt
least-reached k (l ∷ ls) = go (least_falsified k ls) (least-reached k ls)
  where
    go : (o : Option ℕ) → Holds (Reached k ls) o → Holds (Reached k (l ∷ ls)) (or_else o (cond (falsified k l.box) (some (length ls)) none))
    go none h = holds-cond (Reached k (l ∷ ls)) (falsified k l.box) (some (length ls)) none (λ t. reached-here k l ls t) tt
    go (some d) h = reached-out k l ls d h

-- the deepest level falsifies it, so one does
pub least-default : (k : Constraint) (l : Level) (ls : List Level) → T (falsified k l.box) → Reached k (l ∷ ls) (with_default 0 (least_falsified k (l ∷ ls)))
unfolding least_falsified or_else with_default
least-default k l ls t = go (least_falsified k ls) (least-reached k ls)
  where
    go : (o : Option ℕ) → Holds (Reached k ls) o → Reached k (l ∷ ls) (with_default 0 (or_else o (cond (falsified k l.box) (some (length ls)) none)))
    go none h = rw (true_of (falsified k l.box) t) (reached-here k l ls t)
    go (some d) h = reached-out k l ls d h

-- level 0 is the last
pub drop-outer : (l : Level) (ls : List Level) → drop (length ls) (l ∷ ls) ≡ outermost l ls ∷ []
unfolding outermost
drop-outer l [] = refl
drop-outer l (o ∷ ls) = drop-outer o ls

-- ---- a decision flipped in a level where it is open
flip-valid-reasons : (last i : ℕ) (rs : List Reasons) → i < length rs → T (all_of (reasons_valid last) rs) → T (all_of (reasons_valid last) (set_lower_reason i flipped rs))
unfolding set_lower_reason reasons_at reasons_valid reason_valid
flip-valid-reasons last i rs b t =
    let e = true_of (all_of (reasons_valid last) rs) t in
    let r = get_or rs i no_reasons in
    let old = T_of (all_of-get_d (reasons_valid last) rs i no_reasons e b) in
    T_of (all_of-set (reasons_valid last) rs i _ e (true_of _ (and_right (reason_valid last r.lower) (reason_valid last r.upper) old)))

flip-fits : (ts : List ℤ) (n last i : ℕ) (l : Level) → LevelFits n last l → Outside ts l.box → OpenAt l.box i → LevelFits n last (flip_at ts i l)
unfolding flip_at hold_lower set_lower_reason high_half
flip-fits ts n last i l h a o =
    let at = o.at in
    let b = h.box in
    let r = h.reasons in
    let box = high_half (threshold_at ts i) i l.box in
    record {
      box = set-lower-length i _ l.box ∙ b;
      reasons = length-set l.reasons i _ ∙ r;
      range = range-nested box l.box (high-ordered ts i l.box (range-ordered l.box h.range) a o) (high-nested (threshold_at ts i) i l.box) h.range;
      valid-reasons = flip-valid-reasons last i l.reasons (omega arith) h.valid-reasons;
    }

-- the level's own decision is fixed there, so it is another variable's
flip-under : (ts : List ℤ) (n i : ℕ) (l o : Level) → OpenAt l.box i → Under n l o → Under n (flip_at ts i l) o
unfolding flip_at hold_lower high_half set_lower lower_at upper_at
flip-under ts n i l o w h =
    let other = get_or-set_other l.box i l.decided (record { lower = next_value (threshold_at ts i) (lower_at l.box i); upper = upper_at l.box i }) no_bounds apart in
    record {
      inside = nested-trans (high_half (threshold_at ts i) i l.box) l.box o.box (high-nested (threshold_at ts i) i l.box) h.inside;
      variable = h.variable;
      wide = h.wide;
      lower = ap (λ (b : Bounds). b.lower) other ∙ h.lower;
      upper = ap (λ (b : Bounds). b.upper) other ∙ h.upper;
    }
  where
    apart : l.decided ≢ i
    apart e =
        let wide : lower_at l.box l.decided ⊏ upper_at l.box l.decided = rw e w.wide in
        let fixed = eq-in (upper_at l.box l.decided) (lower_at l.box l.decided) (h.upper ∙ sym h.lower) in
        omega arith

flip-stacked : (ts : List ℤ) (n i : ℕ) (l : Level) (ls : List Level) → OpenAt l.box i → Stacked n l ls → Stacked n (flip_at ts i l) ls
flip-stacked ts n i l [] w h = tt
flip-stacked ts n i l (o ∷ ls) w h = (flip-under ts n i l o w h.0, h.1)

flip-outside : (ts : List ℤ) (i : ℕ) (l : Level) → Outside ts l.box → Outside ts (flip_at ts i l).box
unfolding flip_at hold_lower
flip-outside ts i l o = unfold high_half in high-outside ts i l.box o

-- ---- going back from the levels l ∷ ls, less the j deepest
module _ (c : Core) (fits : CoreFits c) where
  pub back_from_lem : (j : ℕ) (l : Level) (ls : List Level) → j < length ls → Every (LevelFits c.variables (length c.inputs + c.made)) (l ∷ ls) →
      Every (LevelOutside c.thresholds) (l ∷ ls) → Stacked c.variables l ls → CoreFits (back_from (drop j (l ∷ ls)) c)
  unfolding back_from with_levels levels kept cut_number dropped
  back_from_lem j l [] b h a s = absurd (omega arith)
  back_from_lem zero l (o ∷ ls) b h a s =
      let under = s.0 in
      let variable = under.variable in
      let size = h.1.0.box in
      let w : OpenAt o.box l.decided = record { at = omega arith; wide = under.wide } in
      record {
        constraints = fits.constraints;
        divisors = fits.divisors;
        inequalities = fits.inequalities;
        cuts = fits.cuts;
        numbers = fits.numbers;
        levels = (flip-fits c.thresholds c.variables (length c.inputs + c.made) l.decided o h.1.0 a.1.0 w, h.1.1);
        thresholds = fits.thresholds;
        outside = (flip-outside c.thresholds l.decided o a.1.0, a.1.1);
        stacked = flip-stacked c.thresholds c.variables l.decided o ls w s.1;
      }
  back_from_lem (suc j) l (o ∷ ls) b h a s = back_from_lem j o ls (omega arith) h.1 a.1 s.1
