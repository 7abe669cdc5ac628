-- A problem changed stays acceptable: its sizes, its limits and its thresholds stay in range, and so does each constraint that stays or comes in.
use Prim.Native.Nat.{ℕ, ◌≤◌, ◌<◌}
use native.Mathlib.Omega.{arith}
use mathlib.Core.Bool.{Bool, true, ◌&&◌}
use mathlib.Core.List.{List, [], ◌∷◌, ◌++◌, Sublistᴰ}
use mathlib.Core.Path.{◌≡◌, refl, ap, ◌∙◌}
use lib.Dec.{eqb}
use lib.IntN.{pos}
use lib.ListN.{length, set, length-append, length-set}
use borrow.Author.Tests.{le-leb, eq-eqb, eqb-true}
use Rattle.model_problems.specs.Lists.{all, all_of}
use Rattle.model_problems.specs.Ranges.{max_variables, max_constraints, max_budget, within}
use Rattle.model_problems.specs.Constraint.{Constraint, in_range, divisor_in_range, equalℤ, none_or_from_two}
use Rattle.model_problems.specs.Threshold.{threshold_fits}
use Rattle.model_problems.specs.Problem.{Problem, variables, sizes_in_range, bounds_in_range, domain_in_range, thresholds_in_range}
use Rattle.model_problems.specs.Problem.{constraints_in_range, divisors_in_range, first_error}
use Rattle.model_acceptance.specs.Acceptable.{problem_error, Shaped, Acceptable}
use Rattle.lists.proofs.Bools.{and-true, and_both}
use Rattle.lists.proofs.AllOf.{all_of-join, all_of-set, all_of-weaker}
use Rattle.lists.proofs.AllPairs.{pairs_set}
use Rattle.acceptance.proofs.Acceptance.{tested, sizes-of}
use Rattle.modify.specs.Changed.{with_constraints, appended, replaced, without, reduced, shut, closed}
use Rattle.modify.specs.Changes.{Suits}
use Rattle.modify.proofs.Solutions.{without-part, chosen-part}

-- ---- the tests of a problem
module _ (q : Problem) where
  sizes-fit : 1 ≤ variables q → variables q ≤ max_variables → length q.constraints ≤ max_constraints → q.budget ≤ max_budget → sizes_in_range q ≡ true
  unfolding sizes_in_range all
  sizes-fit a b c d =
      rw (le-leb 1 (variables q) a, le-leb (variables q) max_variables b, le-leb (length q.constraints) max_constraints c, le-leb q.budget max_budget d)

  no-error : sizes_in_range q ≡ true → domain_in_range q ≡ true → thresholds_in_range q ≡ true → constraints_in_range q ≡ true → divisors_in_range q ≡ true →
      problem_error q ≡ 0
  unfolding problem_error first_error
  no-error t₄ t₅ t₁₃ t₆ t₁₀ = rw (t₄, t₅, t₁₃, t₆, t₁₀)

-- ---- the tests of a constraint of n variables, in one
fits : ℕ → Constraint → Bool
fits n k = eqb (length k.coefficients) n && (in_range k && divisor_in_range k)

module _ (n : ℕ) where
  all_fit : (ks : List Constraint) → Shaped n ks → all_of in_range ks ≡ true → all_of divisor_in_range ks ≡ true → all_of (fits n) ks ≡ true
  unfolding all_of fits
  all_fit [] s r d = refl
  all_fit (k ∷ ks) s r d =
      let a = and-true (in_range k) (all_of in_range ks) r in
      let b = and-true (divisor_in_range k) (all_of divisor_in_range ks) d in
      and_both (and_both (eq-eqb _ _ s.0) (and_both a.0 b.0)) (all_fit ks s.1 a.1 b.1)

  all-shaped : (ks : List Constraint) → all_of (fits n) ks ≡ true → Shaped n ks
  unfolding all_of fits
  all-shaped [] t = tt
  all-shaped (k ∷ ks) t =
      let a = and-true (fits n k) (all_of (fits n) ks) t in
      (eqb-true _ _ (and-true _ (in_range k && divisor_in_range k) a.0).0, all-shaped ks a.1)

  in-range : (k : Constraint) → fits n k ≡ true → (in_range k ≡ true) × (divisor_in_range k ≡ true)
  unfolding fits
  in-range k t = and-true (in_range k) (divisor_in_range k) (and-true (eqb (length k.coefficients) n) (in_range k && divisor_in_range k) t).1

-- ---- some of the constraints: they pass, and they are no more
part-passes : (t : Constraint → Bool) {ls ks : List Constraint} → Sublistᴰ ls ks → all_of t ks ≡ true → all_of t ls ≡ true
unfolding all_of
part-passes t Sublistᴰ.slnil a = refl
part-passes t (Sublistᴰ.cons {a = k} {l₂ = ks} s) a = part-passes t s (and-true (t k) (all_of t ks) a).1
part-passes t (Sublistᴰ.cons-cons {b = k} {l₂ = ks} e s) a =
    let b = and-true (t k) (all_of t ks) a in
    and_both (ap t e ∙ b.0) (part-passes t s b.1)

pub part-shorter : {ls ks : List Constraint} → Sublistᴰ ls ks → length ls ≤ length ks
part-shorter Sublistᴰ.slnil = omega arith
part-shorter (Sublistᴰ.cons s) = omega (arith, part-shorter s)
part-shorter (Sublistᴰ.cons-cons e s) = omega (arith, part-shorter s)

-- ---- limits 0 to 0, and no threshold
shut-bounds : bounds_in_range shut ≡ true
unfolding bounds_in_range all within
shut-bounds = refl

shut-threshold : threshold_fits (pos 0) shut ≡ true
unfolding threshold_fits none_or_from_two equalℤ
shut-threshold = refl

-- ---- an acceptable problem changed
module _ (p : Problem) (a : Acceptable p) where
  short : length p.constraints ≤ max_constraints
  short = (sizes-of p a.fine).few-constraints

  -- with other constraints, no more than may stand, that pass where its own do
  with-fine : (ks : List Constraint) → length ks ≤ max_constraints →
      (all_of (fits (variables p)) p.constraints ≡ true → all_of (fits (variables p)) ks ≡ true) → Acceptable (with_constraints p ks)
  unfolding with_constraints variables domain_in_range thresholds_in_range constraints_in_range divisors_in_range
  with-fine ks l h =
      let n = variables p in
      let w = tested p a.fine in
      let s = sizes-of p a.fine in
      let t = h (all_fit n p.constraints a.shaped w.coefficient-range w.divisor_range) in
      record {
        shaped = all-shaped n ks t;
        fine = no-error (with_constraints p ks)
            (sizes-fit (with_constraints p ks) s.some s.few-variables l s.small-budget)
            w.bounded
            w.threshold-range
            (all_of-weaker (fits n) in_range (λ k e. (in-range n k e).0) ks t)
            (all_of-weaker (fits n) divisor_in_range (λ k e. (in-range n k e).1) ks t);
      }

  -- one that comes in
  module _ (k : Constraint) (s : Suits p k) where
    suits : fits (variables p) k ≡ true
    unfolding fits
    suits = and_both (eq-eqb _ _ s.size) (and_both s.range s.divisor)

    pub appended-fine : length p.constraints < max_constraints → Acceptable (appended p k)
    unfolding appended all_of
    appended-fine l =
        with-fine (p.constraints ++ (k ∷ [])) (omega (arith, length-append p.constraints (k ∷ [])))
        (λ t. all_of-join (fits (variables p)) p.constraints (k ∷ []) t (and_both suits refl))

    pub replaced-fine : (j : ℕ) → Acceptable (replaced j p k)
    unfolding replaced
    replaced-fine j =
        with-fine (set p.constraints j k) (omega (arith, short, length-set p.constraints j k))
        (λ t. all_of-set (fits (variables p)) p.constraints j k t suits)

  -- some that stay
  part-fine : (ks : List Constraint) → Sublistᴰ ks p.constraints → Acceptable (with_constraints p ks)
  part-fine ks s = with-fine ks (omega (arith, short, part-shorter s)) (part-passes (fits (variables p)) s)

  pub without-fine : (j : ℕ) → Acceptable (without j p)
  unfolding without
  without-fine j = part-fine _ (without-part j p.constraints)

  pub reduced-fine : (mask : List Bool) → Acceptable (reduced mask p)
  unfolding reduced
  reduced-fine mask = part-fine _ (chosen-part mask p.constraints)

  -- a variable closed
  pub closed-fine : (i : ℕ) → Acceptable (closed i p)
  unfolding closed variables domain_in_range thresholds_in_range constraints_in_range divisors_in_range
  closed-fine i =
      let w = tested p a.fine in
      let s = sizes-of p a.fine in
      let e = length-set p.domain i shut in
      record {
        shaped = rw e a.shaped;
        fine = no-error (closed i p)
            (sizes-fit (closed i p) (omega (arith, e, s.some)) (omega (arith, e, s.few-variables)) short s.small-budget)
            (all_of-set bounds_in_range p.domain i shut w.bounded shut-bounds)
            (pairs_set threshold_fits p.thresholds p.domain i (pos 0) shut w.threshold-range shut-threshold)
            w.coefficient-range
            w.divisor_range;
      }
