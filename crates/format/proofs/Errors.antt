-- The first test of a table that fails, and an answer or an error.
use Prim.Native.Nat.{ℕ, suc}
use native.Mathlib.Omega.{arith}
use mathlib.Core.Bool.{Bool, true, false}
use mathlib.Core.Path.{◌≡◌, refl}
use mathlib.Core.List.{List, [], ◌∷◌}
use Rattle.model_problems.specs.Problem.{first_error, ok, result_of}

-- ---- the test at the front fails, or passes
pub error-here : (n : ℕ) {t : Bool} (ts : List (ℕ × Bool)) → t ≡ false → first_error ((n, t) ∷ ts) ≡ n
unfolding first_error
error-here n ts e = rw e

pub error-later : (n : ℕ) {t : Bool} (ts : List (ℕ × Bool)) → t ≡ true → first_error ((n, t) ∷ ts) ≡ first_error ts
unfolding first_error
error-later n ts e = rw e

pub no-tests : first_error [] ≡ 0
unfolding first_error
no-tests = refl

-- where none fails, the one at the front passes, and none after it fails
pub passed : (n : ℕ) (t : Bool) (ts : List (ℕ × Bool)) → first_error ((suc n, t) ∷ ts) ≡ 0 → (t ≡ true) × (first_error ts ≡ 0)
unfolding first_error
passed n true ts e = (refl, e)
passed n false ts e = absurd (omega arith)

-- ---- the answer
pub result_ok : {A : Type 0} {e : ℕ} (x : A) → e ≡ 0 → result_of e x ≡ ok x
unfolding result_of
result_ok x e = rw e
