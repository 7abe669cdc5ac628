-- What holds of problems changed: which stay acceptable, which points are their solutions, and what follows for the first one.
use Rattle.std.specs.Prelude.{ℕ, ◌<◌, Bool, true, false, List, ◌⊎◌, ◌↔◌, ◌≡◌, pos, ◌≤ℤ◌, get_or, length}
use Rattle.model_problems.specs.Ranges.{max_constraints}
use Rattle.model_problems.specs.Constraint.{Constraint, in_range, divisor_in_range, lower_at, upper_at}
use Rattle.model_problems.specs.Problem.{Problem, variables}
use Rattle.model_problems.specs.Points.{Point, Inside, Allowed, Meets, Solution, Before, First}
use Rattle.model_files.specs.File.{no_constraint}
use Rattle.model_acceptance.specs.Acceptable.{Acceptable}
use Rattle.modify.specs.Changed.{appended, replaced, last_replaced, without, reduced, closed}

-- a constraint that may stand in the problem
pub record Suits (p : Problem) (k : Constraint) : Type 0 where
  pub size : length k.coefficients ≡ variables p
  pub range : in_range k ≡ true
  pub divisor : divisor_in_range k ≡ true

-- the point meets every constraint that the mask keeps
abbrev pub MeetsChosen : List Bool → Point → List Constraint → Type 0
MeetsChosen mask x ks = (j : ℕ) → j < length ks → get_or mask j false ≡ true → Meets x (get_or ks j no_constraint)

-- 0 lies within the limits of variable i
pub record AllowsZero (p : Problem) (i : ℕ) : Type 0 where
  pub low : lower_at p.domain i ≤ℤ pos 0
  pub high : pos 0 ≤ℤ upper_at p.domain i

-- every solution of q is one of p: q has p's constraints and more, or a narrower domain
abbrev pub Narrower : Problem → Problem → Type 0
Narrower q p = (x : Point) → Solution q x → Solution p x

pub record Changes : Type 0 where
  -- ---- a problem that is acceptable stays so
  pub appended-acceptable : (p : Problem) (k : Constraint) → Acceptable p → Suits p k → length p.constraints < max_constraints → Acceptable (appended p k)
  pub replaced-acceptable : (j : ℕ) (p : Problem) (k : Constraint) → Acceptable p → Suits p k → Acceptable (replaced j p k)
  pub without-acceptable : (j : ℕ) (p : Problem) → Acceptable p → Acceptable (without j p)
  pub reduced-acceptable : (mask : List Bool) (p : Problem) → Acceptable p → Acceptable (reduced mask p)
  pub closed-acceptable : (i : ℕ) (p : Problem) → Acceptable p → Acceptable (closed i p)
  -- ---- the solutions of the result
  pub appended-solutions : (p : Problem) (k : Constraint) (x : Point) → Solution (appended p k) x ↔ (Solution p x × Meets x k)
  pub replaced-solutions : (j : ℕ) (p : Problem) (k : Constraint) (x : Point) → j < length p.constraints →
      Solution (replaced j p k) x ↔ (Solution (without j p) x × Meets x k)
  pub without-solutions : (j : ℕ) (p : Problem) (x : Point) → j < length p.constraints →
      Solution p x ↔ (Solution (without j p) x × Meets x (get_or p.constraints j no_constraint))
  pub reduced-solutions : (mask : List Bool) (p : Problem) (x : Point) →
      Solution (reduced mask p) x ↔ (Inside x p.domain × Allowed p.thresholds x × MeetsChosen mask x p.constraints)
  pub closed-solutions : (i : ℕ) (p : Problem) (x : Point) → AllowsZero p i →
      Solution (closed i p) x ↔ (Solution p x × (get_or x i (pos 0) ≡ pos 0))
  -- one put at the end, and another in its place, is that other one put at the end
  pub last-replaced : (p : Problem) (k l : Constraint) → last_replaced (appended p k) l ≡ appended p l
  -- ---- fewer constraints, more solutions
  pub appended-narrower : (p : Problem) (k : Constraint) → Narrower (appended p k) p
  pub without-wider : (j : ℕ) (p : Problem) → Narrower p (without j p)
  pub reduced-wider : (mask : List Bool) (p : Problem) → Narrower p (reduced mask p)
  pub closed-narrower : (i : ℕ) (p : Problem) → AllowsZero p i → Narrower (closed i p) p
  -- ---- the first solution of the narrower problem is the same or a later one; the same exactly where it still solves; and none stays none
  pub same-or-later : (p q : Problem) → Narrower q p → (x y : Point) → First p x → First q y → (y ≡ x) ⊎ Before x y
  pub stays-first : (p q : Problem) → Narrower q p → (x : Point) → First p x → Solution q x → First q x
  pub none_stays : (p q : Problem) → Narrower q p → ((x : Point) → Solution p x → ⊥) → (x : Point) → Solution q x → ⊥
