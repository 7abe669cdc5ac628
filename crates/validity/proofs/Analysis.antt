-- Analysis: what holds of F at the start and is kept by each resolvent that is taken holds of the cut. F is resolved with inequalities alone.
use Prim.Native.Nat.{ℕ, zero, suc, ◌+◌}
use mathlib.Core.Bool.{Bool, true, false, ◌&&◌, cond}
use mathlib.Core.List.{List, ◌∷◌}
use mathlib.Core.Option.{Option, none, some}
use lib.Dec.{T, ltb}
use lib.ListN.{length}
use Rattle.model_problems.specs.Constraint.{Constraint, is_inequality, coefficient_at, falsified, resolvent, opposite, in_range}
use Rattle.model_walk.specs.Search.{Reason, domain, decision, flipped, constraint, reasons_at, Core, kept, dropped, kept_number}
use Rattle.model_walk.specs.Conflict.{Resolved, unchanged, take_if, resolve_with, resolve_kept, resolve_by, used_reason, resolve_at, analyze_from}
use Rattle.validity.proofs.Constraints.{Inequality, inequality-in}
use Rattle.validity.proofs.States.{Every}
use Rattle.validity.proofs.Elements.{every-left, every-right, Holds, holds-cond, holds_elem}

-- p is what holds of F, and q what holds of the kept constraints
module _ (c : Core) (p q : Constraint → Type 0) (given : Every q (kept c))
    (step : (i : ℕ) (f j : Constraint) → p f → q j → Inequality j → T (in_range (resolvent i f j) && falsified (resolvent i f j) c.deepest.box) → p (resolvent i f j)) where
  number-holds : (k : ℕ) → Holds q (kept_number c k)
  unfolding kept_number kept
  number-holds zero = tt
  number-holds (suc k) =
      holds-cond q (ltb k (length c.inputs)) _ _ (λ t. holds_elem q c.inputs k (every-left q c.inputs c.cuts given))
      (holds-cond q (ltb k (length c.inputs + dropped c)) none _ (λ t. tt) (holds_elem q c.cuts _ (every-right q c.inputs c.cuts given)))

  either : (t : Bool) (r s : Resolved) → (T t → p r.cut) → p s.cut → p (cond t r s).cut
  either true r s h g = h tt
  either false r s h g = g

  resolve-with : (i : ℕ) (f : Constraint) (k : ℕ) (j : Constraint) → p f → q j → Inequality j → p (resolve_with c.deepest.box i f k j).cut
  unfolding resolve_with take_if unchanged
  resolve-with i f k j h g e =
      either (opposite (coefficient_at f i) (coefficient_at j i)) _ _ (λ o. either (in_range (resolvent i f j) && falsified (resolvent i f j) c.deepest.box) _ _ (step i f j h g e) h) h

  resolve-kept : (i : ℕ) (f : Constraint) (k : ℕ) (o : Option Constraint) → p f → Holds q o → p (resolve_kept c.deepest.box i f k o).cut
  unfolding resolve_kept unchanged
  resolve-kept i f k none h g = h
  resolve-kept i f k (some j) h g = either (is_inequality j) _ _ (λ t. resolve-with i f k j h g (inequality-in j t)) h

  resolve-by : (i : ℕ) (f : Constraint) (r : Reason) → p f → p (resolve_by c i f r).cut
  unfolding resolve_by unchanged
  resolve-by i f domain h = h
  resolve-by i f decision h = h
  resolve-by i f flipped h = h
  resolve-by i f (constraint k) h = resolve-kept i f k (kept_number c k) h (number-holds k)

  pub analysis-keeps : (i : ℕ) (f : Constraint) (used : List ℕ) → p f → p (analyze_from c i f used).cut
  unfolding analyze_from resolve_at
  analysis-keeps zero f used h = h
  analysis-keeps (suc i) f used h =
      let r = resolve_at c i f in
      analysis-keeps i r.cut (r.used ∷ used) (resolve-by i f (used_reason (coefficient_at f i) (reasons_at c.deepest.reasons i)) h)
