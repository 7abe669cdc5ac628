-- What a problem's arrays say once they are changed.
use Prim.Native.Nat.{ℕ, zero, suc, ◌+◌}
use native.Mathlib.Omega.{arith}
use mathlib.Core.List.{List, [], ◌∷◌, ◌++◌}
use mathlib.Core.Logic.{◌≢◌}
use mathlib.Core.Path.{◌≡◌, refl, sym, ap, ap₂, ◌∙◌}
use lib.IntN.{ℤ, pos}
use lib.ListN.{set}
use lib.Seq.{get_or-set_other}
use Rattle.model_problems.specs.Lists.{tab}
use Rattle.model_problems.specs.Constraint.{Constraint}
use Rattle.lists.proofs.Tab.{tab-ext-0, tab-more, set-tab}
use Rattle.layout.specs.Rows.{number_in, divided_at, input_at, bounds_at, box_of, thresholds_of}
use Rattle.problem.specs.declared.Problem.{Problem}
use Rattle.problem.specs.View.{problem_of}
use Rattle.modify.specs.Changed.{with_constraints, appended, replaced, shut, closed}
use Rattle.modify.specs.Stored.{with_rows, Stored}

-- constraint j of p's variables, in the arrays of s
abbrev pub input_in : Problem → Problem → ℕ → Constraint
input_in p s j = input_at p.n s.constraints s.divisors j

pub view-with : (p : Problem) (m : ℕ) (rows divisors : List ℤ) (ks : List Constraint) → tab (input_at p.n rows divisors) 0 m ≡ ks →
    problem_of (with_rows p m rows divisors) ≡ with_constraints (problem_of p) ks
unfolding problem_of with_constraints
view-with p m rows divisors ks e =
    λ i. record { domain = box_of p.n p.lower p.upper; thresholds = thresholds_of p.n p.thresholds; constraints = e i; budget = p.budget }

-- ---- a constraint put in place j, and how many there are then
module _ (p s : Problem) (j : ℕ) (row : List ℤ) (q : ℤ) (h : Stored p j row q s) where
  stored-view : (m : ℕ) (ks : List Constraint) → tab (input_in p s) 0 m ≡ ks →
      problem_of (with_rows s m s.constraints s.divisors) ≡ with_constraints (problem_of p) ks
  stored-view m ks e =
      ap (λ (r : Problem). problem_of (with_rows r m s.constraints s.divisors)) h.stays ∙ view-with p m s.constraints s.divisors ks e

  pub append-view : j ≡ p.m → problem_of (with_rows s (s.m + 1) s.constraints s.divisors) ≡ appended (problem_of p) (divided_at p.n row 0 q)
  unfolding appended problem_of
  append-view e =
      let count : s.m ≡ j = ap (λ (r : Problem). r.m) h.stays ∙ sym e in
      let before = tab-ext-0 (input_in p s) (input_in p p) j (λ k l. h.others k (omega arith)) ∙ ap (tab (input_in p p) 0) e in
      rw count (stored-view (j + 1) _ (tab-more (input_in p s) j ∙ ap₂ (λ (ks : List Constraint) (k : Constraint). ks ++ (k ∷ [])) before h.here))

  pub replace-view : problem_of s ≡ replaced j (problem_of p) (divided_at p.n row 0 q)
  unfolding replaced problem_of
  replace-view =
      let put = set-tab (input_in p p) (input_in p s) p.m j (divided_at p.n row 0 q) h.here h.others in
      ap problem_of h.stays ∙ view-with p p.m s.constraints s.divisors _ (sym put)

-- ---- a variable closed: 0 stored in place i, whatever an array's length
zero-set : (xs : List ℤ) (i : ℕ) → number_in (set xs i (pos 0)) i ≡ pos 0
unfolding number_in
zero-set [] i = refl
zero-set (x ∷ xs) zero = refl
zero-set (x ∷ xs) (suc i) = zero-set xs i

zero-other : (xs : List ℤ) (i j : ℕ) → j ≢ i → number_in (set xs i (pos 0)) j ≡ number_in xs j
unfolding number_in
zero-other xs i j d = get_or-set_other xs i j (pos 0) (pos 0) d

closed-domain : (n : ℕ) (lower upper : List ℤ) (i : ℕ) → box_of n (set lower i (pos 0)) (set upper i (pos 0)) ≡ set (box_of n lower upper) i shut
unfolding box_of bounds_at
closed-domain n lower upper i =
    sym (set-tab (bounds_at lower upper) (bounds_at (set lower i (pos 0)) (set upper i (pos 0))) n i shut
    (λ k. record { lower = zero-set lower i k; upper = zero-set upper i k })
    (λ j d k. record { lower = zero-other lower i j d k; upper = zero-other upper i j d k }))

closed-thresholds : (n : ℕ) (ts : List ℤ) (i : ℕ) → thresholds_of n (set ts i (pos 0)) ≡ set (thresholds_of n ts) i (pos 0)
unfolding thresholds_of
closed-thresholds n ts i = sym (set-tab (number_in ts) (number_in (set ts i (pos 0))) n i (pos 0) (zero-set ts i) (zero-other ts i))

pub close-view : (p : Problem) (i : ℕ) →
    problem_of (record {
      n = p.n;
      m = p.m;
      budget = p.budget;
      lower = set p.lower i (pos 0);
      upper = set p.upper i (pos 0);
      constraints = p.constraints;
      divisors = p.divisors;
      thresholds = set p.thresholds i (pos 0);
    }) ≡ closed i (problem_of p)
unfolding closed problem_of
close-view p i =
    λ k. record {
      domain = closed-domain p.n p.lower p.upper i k;
      thresholds = closed-thresholds p.n p.thresholds i k;
      constraints = tab (input_in p p) 0 p.m;
      budget = p.budget;
    }
