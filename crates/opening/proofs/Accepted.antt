-- Every problem that reading accepts can be opened.
use Prim.Native.Nat.{ℕ}
use mathlib.Core.List.{List}
use mathlib.Core.Path.{◌≡◌}
use Rattle.model_files.specs.File.{problem_in, read_error}
use Rattle.format.proofs.AcceptedShape.{sizes, tests, accepted-constraints}
use Rattle.problem.specs.View.{packed}
use Rattle.problem.proofs.Views.{view-of-accepted}
use Rattle.opening.specs.Accepted.{Accepted}

pub accepted : (f : List ℕ) → read_error f ≡ 0 → Accepted (packed (problem_in f))
unfolding packed
accepted f e =
    let s = sizes (problem_in f) (tests f e).sized in
    record { few-variables = s.few-variables; few-constraints = s.few-constraints; coefficient-range = rw (view-of-accepted f e) (accepted-constraints f e) }
