-- `all_solutions` lists all solutions, each once, in dictionary order.
use Prim.Native.Nat.{ℕ, zero, suc}
use mathlib.Core.Bool.{Bool, true, false, cond}
use mathlib.Core.List.{List, [], ◌∷◌}
use mathlib.Core.Logic.{◌⊎◌, inl, inr, ◌↔◌}
use mathlib.Core.Path.{◌≡◌, refl, sym, subst}
use lib.Dec.{T}
use Rattle.model_problems.specs.Lists.{all_of, filter}
use Rattle.model_problems.specs.Constraint.{Constraint, modulus}
use Rattle.model_problems.specs.Problem.{Problem}
use Rattle.model_problems.specs.Points.{Point, points_in, all_points, MeetsBy, MeetsAll, Solution, is_met_by, is_met, is_solution, all_solutions}
use Rattle.model_claims.specs.Demand.{In}
use Rattle.model_claims.specs.Enumeration.{BeforeAll, Ascending}
use Rattle.integer.specs.Tests.{and_left, and_right, and_in}
use Rattle.lists.proofs.Bools.{true_of, T_of}
use Rattle.soundness.proofs.Sizes.{points-every, before-each, before-all, points-ascending}

-- ---- filtering
module _ (t : Point → Bool) where
  -- one element more, by its test
  more-in : (b : Bool) (x y : Point) (ys : List Point) → t y ≡ b → T (t x) → (In x ys → In x (filter t ys)) → (x ≡ y) ⊎ In x ys → In x (cond b (y ∷ filter t ys) (filter t ys))
  more-in true x y ys e h f (inl k) = inl k
  more-in true x y ys e h f (inr m) = inr (f m)
  more-in false x y ys e h f (inl k) = absurd (subst T e (subst (λ (z : Point). T (t z)) k h))
  more-in false x y ys e h f (inr m) = f m

  filter-in : (x : Point) (xs : List Point) → T (t x) → In x xs → In x (filter t xs)
  unfolding filter
  filter-in x [] h m = m
  filter-in x (y ∷ ys) h m = more-in (t y) x y ys refl h (λ k. filter-in x ys h k) m

  more-out : (b : Bool) (x y : Point) (ys : List Point) → t y ≡ b → (In x (filter t ys) → T (t x) × In x ys) → In x (cond b (y ∷ filter t ys) (filter t ys)) → T (t x) × ((x ≡ y) ⊎ In x ys)
  more-out true x y ys e f (inl k) = (subst (λ (z : Point). T (t z)) (sym k) (T_of e), inl k)
  more-out true x y ys e f (inr m) = let r = f m in (r.0, inr r.1)
  more-out false x y ys e f m = let r = f m in (r.0, inr r.1)

  filter-out : (x : Point) (xs : List Point) → In x (filter t xs) → T (t x) × In x xs
  unfolding filter
  filter-out x [] m = absurd m
  filter-out x (y ∷ ys) m = more-out (t y) x y ys refl (λ k. filter-out x ys k) m

  more-ascending : (b : Bool) (y : Point) (ys : List Point) → BeforeAll y ys → Ascending (filter t ys) → Ascending (cond b (y ∷ filter t ys) (filter t ys))
  more-ascending true y ys h a = (before-all y (filter t ys) (λ w m. before-each y ys h w (filter-out w ys m).1), a)
  more-ascending false y ys h a = a

  filter-ascending : (xs : List Point) → Ascending xs → Ascending (filter t xs)
  unfolding filter
  filter-ascending [] a = tt
  filter-ascending (y ∷ ys) a = more-ascending (t y) y ys a.0 (filter-ascending ys a.1)

-- ---- the test of a solution
met_by : (q : ℕ) (x : Point) (k : Constraint) → T (is_met_by q x k) ↔ MeetsBy q x k
unfolding is_met_by
met_by zero x k = (λ t. record { le = t }, λ m. m.le)
met_by (suc q) x k = (λ t. true_of _ t, λ e. T_of e)

met_all : (x : Point) (ks : List Constraint) → T (all_of (is_met x) ks) ↔ MeetsAll x ks
unfolding all_of is_met
met_all x [] = (λ t. tt, λ m. tt)
met_all x (k ∷ ks) = (
  λ t. ((met_by (modulus k) x k).0 (and_left (is_met x k) (all_of (is_met x) ks) t), (met_all x ks).0 (and_right (is_met x k) (all_of (is_met x) ks) t)),
  λ m. and_in (is_met x k) (all_of (is_met x) ks) ((met_by (modulus k) x k).1 m.0) ((met_all x ks).1 m.1),
)

pub solutions-every : (p : Problem) (x : Point) → Solution p x ↔ In x (all_solutions p)
unfolding all_solutions is_solution all_points
solutions-every p x = (
  λ z. filter-in (is_solution p) x (points_in p.thresholds p.domain) (unfold is_solution in (met_all x p.constraints).1 z.meets) ((points-every p.thresholds p.domain x).0 (z.inside, z.allowed)),
  λ m.
      let r = filter-out (is_solution p) x (points_in p.thresholds p.domain) m in
      let q = (points-every p.thresholds p.domain x).1 r.1 in
      record { inside = q.0; allowed = q.1; meets = (met_all x p.constraints).0 r.0 },
)

pub solutions-ascending : (p : Problem) → Ascending (all_solutions p)
unfolding all_solutions all_points
solutions-ascending p = filter-ascending (is_solution p) (points_in p.thresholds p.domain) (points-ascending p.thresholds p.domain)
