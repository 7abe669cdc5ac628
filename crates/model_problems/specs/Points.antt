-- The words of the demands: points, solutions, dictionary order.
use Rattle.std.specs.Prelude.{ℕ, zero, suc, Bool, true, cond, List, [], ◌∷◌, ◌++◌, map, ◌⊎◌, ◌≡◌, ℤ, pos, nat_abs, ◌+ℤ◌, ◌-ℤ◌, ◌*ℤ◌, ◌≤ℤ◌, ◌<ℤ◌, length}
use Rattle.std.proofs.Math.IntN.{suc_ℤ}
use Rattle.std.specs.Int.Signed.{le_z}
use Rattle.model_problems.specs.Lists.{all_of, filter}
use Rattle.model_problems.specs.Division.{divides}
use Rattle.model_problems.specs.Constraint.{Constraint, Bounds, Box, modulus}
use Rattle.model_problems.specs.Threshold.{allowed}
use Rattle.model_problems.specs.Problem.{Problem}

-- a 'point' is a choice of all variables' values
abbrev pub Point : Type 0
Point = List ℤ

-- inside the limits: as many values as bounds, each from L to U
abbrev pub Inside : Point → Box → Type 0
Inside [] [] = Unit {0}
Inside [] (b ∷ box) = ⊥
Inside (x ∷ v) [] = ⊥
Inside (x ∷ v) (b ∷ box) = (b.lower ≤ℤ x) × (x ≤ℤ b.upper) × Inside v box

-- N6: each value is one that its variable may have
abbrev pub Allowed : List ℤ → Point → Type 0
Allowed [] [] = Unit {0}
Allowed [] (x ∷ v) = ⊥
Allowed (t ∷ ts) [] = ⊥
Allowed (t ∷ ts) (x ∷ v) = (allowed t x ≡ true) × Allowed ts v

-- ---- the number of points
-- how many whole numbers lie from L to U
unfoldable pub whole_numbers : ℤ → ℤ → ℕ
whole_numbers l u = cond (le_z l u) (suc (nat_abs (u -ℤ l))) 0

unfoldable pub numbers_from : ℕ → ℤ → List ℤ
numbers_from zero v = []
numbers_from (suc count) v = v ∷ numbers_from count (suc_ℤ v)

-- those that the variable may have
unfoldable pub values : ℤ → Bounds → List ℤ
values t b = filter (allowed t) (numbers_from (whole_numbers b.lower b.upper) b.lower)

-- each value before each point
unfoldable pub prefixed : List ℤ → List Point → List Point
prefixed [] vs = []
prefixed (x ∷ xs) vs = map (λ (v : Point). x ∷ v) vs ++ prefixed xs vs

unfoldable pub points_in : List ℤ → Box → List Point
points_in [] [] = [] ∷ []
points_in [] (b ∷ box) = []
points_in (t ∷ ts) [] = []
points_in (t ∷ ts) (b ∷ box) = prefixed (values t b) (points_in ts box)

unfoldable pub all_points : Problem → List Point
all_points p = points_in p.thresholds p.domain

unfoldable pub points : Problem → ℕ
points p = length (all_points p)

-- ---- solutions
unfoldable pub dot : List ℤ → Point → ℤ
dot [] v = pos 0
dot (a ∷ cs) [] = pos 0
dot (a ∷ cs) (x ∷ v) = a *ℤ x +ℤ dot cs v

unfoldable pub value : Constraint → Point → ℤ
value k v = k.constant +ℤ dot k.coefficients v

-- 'meets' a line: the value of an inequality is at most 0; that of a divisor constraint, q divides
abbrev pub MeetsBy : ℕ → Point → Constraint → Type 0
MeetsBy zero v k = value k v ≤ℤ pos 0
MeetsBy (suc q) v k = divides (suc q) (value k v) ≡ true

abbrev pub Meets : Point → Constraint → Type 0
Meets v k = MeetsBy (modulus k) v k

abbrev pub MeetsAll : Point → List Constraint → Type 0
MeetsAll v [] = Unit {0}
MeetsAll v (k ∷ ks) = Meets v k × MeetsAll v ks

pub record Solution (p : Problem) (v : Point) : Type 0 where
  pub inside : Inside v p.domain
  pub allowed : Allowed p.thresholds v
  pub meets : MeetsAll v p.constraints

-- 'dictionary order': u comes before v
abbrev pub Before : Point → Point → Type 0
Before [] v = ⊥
Before (x ∷ u) [] = ⊥
Before (x ∷ u) (y ∷ v) = (x <ℤ y) ⊎ ((x ≡ y) × Before u v)

-- of the points with a property, the one that every other one follows
pub record FirstOf (Left : Point → Type 0) (s : Point) : Type 0 where
  pub solves : Left s
  pub first : (v : Point) → Left v → (v ≡ s) ⊎ Before s v

abbrev pub First : Problem → Point → Type 0
First p s = FirstOf (Solution p) s

-- ---- the list of all solutions, in dictionary order
-- whether a point meets a line
unfoldable pub is_met_by : ℕ → Point → Constraint → Bool
is_met_by zero v k = le_z (value k v) (pos 0)
is_met_by (suc q) v k = divides (suc q) (value k v)

unfoldable pub is_met : Point → Constraint → Bool
is_met v k = is_met_by (modulus k) v k

unfoldable pub is_solution : Problem → Point → Bool
is_solution p v = all_of (is_met v) p.constraints

unfoldable pub all_solutions : Problem → List Point
all_solutions p = filter (is_solution p) (all_points p)
