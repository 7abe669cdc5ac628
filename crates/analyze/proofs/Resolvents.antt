-- Analysis on the code's arrays: F combined with a constraint, with a reason, and the loop over the variables.
use Prim.Native.Nat.{ℕ, suc, ◌+◌, ◌-◌, ◌≤◌, ◌<◌}
use native.Mathlib.Omega.{arith}
use mathlib.Core.Bool.{Bool, true, false, cond}
use mathlib.Core.List.{List, ◌∷◌}
use mathlib.Core.Logic.{⊎_elim}
use mathlib.Core.Option.{none}
use mathlib.Core.Path.{◌≡◌, refl, sym, ap, ◌∙◌, subst}
use borrow.Author.Tests.{ltb-true, eqb-true}
use lib.Dec.{eqb}
use lib.IntN.{ℤ, pos, negsuc}
use lib.ListN.{get_or, length, set, length-set, replicate}
use lib.Signed.{lt_z}
use lib.Seq.{get_or-set_same, get_or-set_other}
use Rattle.model_problems.specs.Lists.{tab}
use Rattle.model_problems.specs.Ranges.{max_variables, max_constraints, max_budget}
use Rattle.model_problems.specs.Constraint.{Constraint, Box, modulus, is_inequality, coefficient_at, falsified, rounded, resolvent, opposite, in_range}
use Rattle.model_walk.specs.Search.{domain, decision, flipped, constraint, no_reasons, Level, Core, reasons_at, kept_number}
use Rattle.model_walk.specs.Conflict.{Resolved, unchanged, take_if, resolve_with, resolve_by, resolve_kept, used_reason, resolve_at, analyze_from, analyze}
use Rattle.lists.proofs.Bools.{true_of, clash}
use Rattle.lists.proofs.Loops.{every-at}
use Rattle.lists.proofs.Tab.{get_d-tab, tab-ext, tab-end, tab-down, get_d-const}
use Rattle.layout.specs.Rows.{row_length, constraint_at, row_at, box_of}
use Rattle.linear.specs.Ranges.{BoxFits}
use Rattle.linear.proofs.Ranges.{box-fits}
use Rattle.derivation.specs.Excess.{RoundedOrOut}
use Rattle.derivation.proofs.Sizes.{rounded-range}
use Rattle.layout.specs.Copies.{Copied}
use Rattle.state.specs.View.{domain_reason, decision_reason, flipped_reason, reason_of, reasons_in, kept_cuts, core_over, core_with}
use Rattle.std.specs.Bool.{then_some}
use Rattle.std.specs.Prelude.{Option, None, Some}
use Rattle.layout.specs.Rows.{max_rows}
use Rattle.state.specs.Position.{constraint_in, PositionOf}
use Rattle.state.proofs.Positions.{position-zero, position-beyond}
use Rattle.analyze.specs.Analyzable.{Analyzable, ResolventOf, core_at}
use Rattle.analyze.specs.Analyzed.{analysis_of, Analyzed}
use Rattle.analyze.proofs.Lowest.{rounded-holds}

-- ---- a reason: the three that are named are no constraint's number
module _ (c : Core) (i : ℕ) (f : Constraint) (k : ℕ) where
  resolve-cases : (a b d : Bool) → (a ≡ true → kept_number c k ≡ none) → (b ≡ true → kept_number c k ≡ none) → (d ≡ true → kept_number c k ≡ none) →
      resolve_by c i f (cond a domain (cond b decision (cond d flipped (constraint k)))) ≡ resolve_kept c.deepest.box i f k (kept_number c k)
  unfolding resolve_by resolve_kept
  resolve-cases true b d p q r = rw (p refl)
  resolve-cases false true d p q r = rw (q refl)
  resolve-cases false false true p q r = rw (r refl)
  resolve-cases false false false p q r = refl

reason-resolves : (n m made : ℕ) (rows : List ℤ) (numbers : List ℕ) (l : Level) (ls : List Level) (i : ℕ) (f : Constraint) (reason : ℕ) (position : Option ℕ) → m ≤ max_constraints → made ≤ max_budget → PositionOf m made reason position →
    resolve_by (core_with n m made rows numbers l ls) i f (reason_of reason) ≡ resolve_kept l.box i f reason (constraint_in n rows position)
unfolding reason_of core_over constraint_in
reason-resolves n m made rows numbers l ls i f reason position few budget p =
    let c = core_with n m made rows numbers l ls in
    let beyond : m + made < reason → kept_number c reason ≡ none = λ h. (position-beyond m made reason h).found n rows numbers l ls in
    resolve-cases c i f reason (eqb reason domain_reason) (eqb reason decision_reason) (eqb reason flipped_reason)
    (λ e. let z : reason ≡ 0 = eqb-true reason domain_reason e in rw z ((position-zero m made).found n rows numbers l ls))
    (λ e. beyond (omega (arith, eqb-true reason decision_reason e))) (λ e. beyond (omega (arith, eqb-true reason flipped_reason e))) ∙
    ap (resolve_kept l.box i f reason) (p.found n rows numbers l ls)

-- ---- F combined with J, constraint number k: signs alike, the outcome out of range, the outcome not falsified, the outcome taken
module _ (box : Box) (i : ℕ) (f : Constraint) (k : ℕ) (j : Constraint) where
  pub with-alike : opposite (coefficient_at f i) (coefficient_at j i) ≡ false → resolve_with box i f k j ≡ record { cut = f; used = 0 }
  unfolding resolve_with unchanged
  with-alike o = rw o

  -- from c, before it is rounded, and g, as the code rounds it
  module _ (c : Constraint) (o : opposite (coefficient_at f i) (coefficient_at j i) ≡ true) (e : rounded c ≡ resolvent i f j) where
    with-outcome : resolve_with box i f k j ≡ take_if box f k (rounded c)
    unfolding resolve_with
    with-outcome = rw (o, e)

    outcome-large : in_range (rounded c) ≡ false → resolve_with box i f k j ≡ record { cut = f; used = 0 }
    unfolding take_if unchanged
    outcome-large r = with-outcome ∙ rw r

    outcome-holding : in_range (rounded c) ≡ true → falsified (rounded c) box ≡ false → resolve_with box i f k j ≡ record { cut = f; used = 0 }
    unfolding take_if unchanged
    outcome-holding r t = with-outcome ∙ rw (r, t)

    pub with-combined : c.divisor ≡ pos 0 → in_range c ≡ true → falsified c box ≡ false → resolve_with box i f k j ≡ record { cut = f; used = 0 }
    with-combined q r t = outcome-holding (rounded-range c r) (rounded-holds c box q t)

    module _ {g : Constraint} (d : RoundedOrOut c g) where
      pub with-large : in_range g ≡ false → resolve_with box i f k j ≡ record { cut = f; used = 0 }
      with-large r = outcome-large (⊎_elim (λ q. rw q at r) (λ q. q.1) d)

      outcome-is : in_range g ≡ true → g ≡ rounded c
      outcome-is r = ⊎_elim (λ q. q) (λ q. clash r q.0) d

      pub with-holding : in_range g ≡ true → falsified g box ≡ false → resolve_with box i f k j ≡ record { cut = f; used = 0 }
      with-holding r t = let q = outcome-is r in outcome-holding (rw q at r) (rw q at t)

      pub with-taken : in_range g ≡ true → falsified g box ≡ true → resolve_with box i f k j ≡ record { cut = g; used = k }
      unfolding take_if
      with-taken r t = let q = outcome-is r in with-outcome ∙ rw (← q) (rw (r, t))

-- the outcome g is taken where it is falsified
pub taken-where-false : (n i j : ℕ) (rows lower upper f g : List ℤ) (c : Constraint) (t : Bool) → opposite (coefficient_at (constraint_at n f 0) i) (coefficient_at (row_at n rows j) i) ≡ true →
    rounded c ≡ resolvent i (constraint_at n f 0) (row_at n rows j) → RoundedOrOut c (constraint_at n g 0) → in_range (constraint_at n g 0) ≡ true → length g ≡ row_length →
    t ≡ falsified (constraint_at n g 0) (box_of n lower upper) → ResolventOf n rows lower upper f i j (then_some t g)
taken-where-false n i j rows lower upper f g c true o e d r l h = λ number. record { same = with-taken _ _ _ _ _ c o e d r (sym h); range = r; size = l }
taken-where-false n i j rows lower upper f g c false o e d r l h = λ number. with-holding _ _ _ _ _ c o e d r (sym h)

-- ---- F combined with the reason at variable i
pub position-most : {n m made : ℕ} {rows lower upper : List ℤ} {j : ℕ} → Analyzable n m made rows lower upper → j < m + kept_cuts made → j < max_rows
unfolding kept_cuts
position-most a h = omega (arith, a.inputs)

pub box-in-hand : {n m made : ℕ} {rows lower upper : List ℤ} → Analyzable n m made rows lower upper → BoxFits n lower upper
box-in-hand a = box-fits _ _ _ (true_of _ a.box-range) (omega (arith, a.variables, a.lower-size)) (omega (arith, a.variables, a.upper-size))

pub kept-range : (n m made : ℕ) (rows lower upper : List ℤ) (j : ℕ) → Analyzable n m made rows lower upper → j < m + kept_cuts made → in_range (row_at n rows j) ≡ true
kept-range n m made rows lower upper j a h = every-at in_range (row_at n rows) (m + kept_cuts made) j (true_of _ a.rows-range) h

module _ (n m made : ℕ) (rows lower upper : List ℤ) (below above numbers : List ℕ) (decided : ℕ) (outer : List Level) where
  abbrev here : Core
  here = core_at n m made rows lower upper below above numbers decided outer

  module _ (a : Analyzable n m made rows lower upper) (i : ℕ) (l : i < n) (f : Constraint) (reason : ℕ) (position : Option ℕ)
      (e : reason_of reason ≡ used_reason (coefficient_at f i) (reasons_in below above i)) (p : PositionOf m made reason position) where
    at-reason : resolve_at here i f ≡ resolve_kept (box_of n lower upper) i f reason (constraint_in n rows position)
    unfolding resolve_at reasons_at core_over
    at-reason =
        rw (get_d-tab (reasons_in below above) n i no_reasons l, ← e)
        (reason-resolves n m made rows numbers (record { box = box_of n lower upper; reasons = tab (reasons_in below above) 0 n; decided = decided }) outer i f reason position a.inputs a.cuts p)

    pub resolve-none : position ≡ None → resolve_at here i f ≡ record { cut = f; used = 0 }
    unfolding resolve_kept unchanged constraint_in
    resolve-none z = at-reason ∙ rw z

    pub resolve-some : (j : ℕ) → position ≡ Some j → resolve_at here i f ≡ resolve_with (box_of n lower upper) i f reason (row_at n rows j)
    unfolding resolve_kept is_inequality modulus row_at constraint_at constraint_in
    resolve-some j z = at-reason ∙ rw z

-- ---- the loop, from variable n − 1 down: F and what was used from variable i on
pub record Analyzing (n m made : ℕ) (rows lower upper : List ℤ) (below above : List ℕ) (first : Constraint) (i : ℕ) (f : List ℤ) (used : List ℕ) : Type 0 where
  pub most : i ≤ n
  pub ahead : (numbers : List ℕ) (decided : ℕ) (outer : List Level) →
      analyze (core_at n m made rows lower upper below above numbers decided outer) first ≡
      analyze_from (core_at n m made rows lower upper below above numbers decided outer) i (constraint_at n f 0) (tab (λ k. get_or used k 0) i (n - i))
  pub range : in_range (constraint_at n f 0) ≡ true
  pub row : length f ≡ row_length
  pub size : length used ≡ max_variables
  pub rest : (k : ℕ) → n ≤ k → get_or used k 0 ≡ 0

module _ (n m made : ℕ) (rows lower upper : List ℤ) (below above : List ℕ) (first : Constraint) where
  pub analysis-start : (f : List ℤ) → constraint_at n f 0 ≡ first → in_range first ≡ true → length f ≡ row_length → Analyzing n m made rows lower upper below above first n f (replicate max_variables 0)
  unfolding analyze core_over
  analysis-start f e r h =
      record {
        most = omega arith;
        ahead = λ numbers decided outer. rw (e, tab-end {A = ℕ} (λ k. get_or (replicate max_variables 0) k 0) n n (omega arith));
        range = rw e r;
        row = h;
        size = refl;
        rest = λ k l. get_d-const 0 max_variables k;
      }

  pub analysis-step : (i : ℕ) (f g : List ℤ) (used : List ℕ) (number : ℕ) → n ≤ max_variables → 0 < i →
      ((numbers : List ℕ) (decided : ℕ) (outer : List Level) → resolve_at (core_at n m made rows lower upper below above numbers decided outer) (i - 1) (constraint_at n f 0) ≡ record { cut = constraint_at n g 0; used = number }) →
      in_range (constraint_at n g 0) ≡ true → length g ≡ row_length → Analyzing n m made rows lower upper below above first i f used →
      Analyzing n m made rows lower upper below above first (i - 1) g (set used (i - 1) number)
  analysis-step i f g used number few p e r w a =
      let b = a.most in
      record {
        most = omega arith;
        ahead = λ numbers decided outer.
            a.ahead numbers decided outer ∙
            ap (analyze_from (core_at n m made rows lower upper below above numbers decided outer) i (constraint_at n f 0))
            (tab-ext (λ k. get_or used k 0) (λ k. get_or (set used (i - 1) number) k 0) i (n - i) (λ k l h. sym (get_or-set_other used (i - 1) k number 0 (λ z. omega arith)))) ∙
            down (core_at n m made rows lower upper below above numbers decided outer) n i (constraint_at n f 0) (constraint_at n g 0) number (λ k. get_or (set used (i - 1) number) k 0) p b (e numbers decided outer)
            (get_or-set_same used (i - 1) number 0 (omega (arith, a.size)));
        range = r;
        row = w;
        size = length-set used (i - 1) number ∙ a.size;
        rest = λ k h. get_or-set_other used (i - 1) k number 0 (λ z. omega arith) ∙ a.rest k h;
      }
    where
      next : (c : Core) (i : ℕ) (f g : Constraint) (number : ℕ) (used : List ℕ) → resolve_at c i f ≡ record { cut = g; used = number } → analyze_from c (suc i) f used ≡ analyze_from c i g (number ∷ used)
      next c i f g number used e = unfold analyze_from in ap (λ (r : Resolved). analyze_from c i r.cut (r.used ∷ used)) e

      down : (c : Core) (n i : ℕ) (f g : Constraint) (number : ℕ) (u : ℕ → ℕ) → 0 < i → i ≤ n → resolve_at c (i - 1) f ≡ record { cut = g; used = number } → u (i - 1) ≡ number →
          analyze_from c i f (tab u i (n - i)) ≡ analyze_from c (i - 1) g (tab u (i - 1) (n - (i - 1)))
      down c n i f g number u p b e q =
          let d : suc (i - 1) ≡ i = omega arith in
          subst (λ (x : ℕ). analyze_from c x f (tab u i (n - i)) ≡ analyze_from c (i - 1) g (tab u (i - 1) (n - (i - 1)))) d
          (next c (i - 1) f g number (tab u i (n - i)) e ∙ rw (tab-down u n i p b, q))

  pub analysis-end : (j : ℕ) (f cut : List ℤ) (used : List ℕ) → first ≡ row_at n rows j → Analyzing n m made rows lower upper below above first 0 f used → Copied n f 0 cut →
      Analyzed n m made rows lower upper below above j (record { cut = cut; used = used })
  unfolding analyze_from analysis_of
  analysis-end j f cut used z a c =
      let s : n - 0 ≡ n = omega arith in
      record {
        analysis = λ numbers decided outer. rw (z, s, ← c.same) at (a.ahead numbers decided outer);
        range = rw c.same a.range;
        cut-size = c.size;
        cut-rest = c.rest;
        used-size = a.size;
        used-rest = a.rest;
      }

-- ---- the reason that the code reads
pub reason-negative : (a : ℤ) (below above : ℕ) → lt_z a (pos 0) ≡ true → reason_of above ≡ used_reason a (record { lower = reason_of below; upper = reason_of above })
unfolding used_reason
reason-negative (pos a) below above e = absurd (omega (arith, ltb-true a 0 e))
reason-negative (negsuc a) below above e = refl

pub reason-positive : (a : ℤ) (below above : ℕ) → lt_z a (pos 0) ≡ false → reason_of below ≡ used_reason a (record { lower = reason_of below; upper = reason_of above })
unfolding used_reason
reason-positive (pos a) below above e = refl
reason-positive (negsuc a) below above e = clash refl e
