-- Striking out a solution keeps validity, on every valid state, made-up ones too. Inside a listing N5's limit is tested before.
use Prim.Native.Nat.{ℕ, zero, suc, ◌≤◌, ◌<◌}
use native.Mathlib.Omega.{arith}
use mathlib.Core.Bool.{Bool, true, false, cond}
use mathlib.Core.Path.{◌≡◌, refl}
use borrow.Author.Tests.{le-leb, lt-leb}
use Rattle.model_walk.specs.Search.{Status, undecided, infeasible, solved, Search, depth}
use Rattle.model_walk.specs.Conflict.{back_up}
use Rattle.model_problems.specs.Ranges.{max_propagations}
use Rattle.model_walk.specs.Validity.{status_valid, within_limit}
use Rattle.model_walk.specs.Step.{with_status}
use Rattle.model_walk.specs.Exclude.{Excluded, unsolved, unchanged, exclude_at, exclude_by, exclude, exclude_within}
use Rattle.validity.specs.Valid.{Valid}
use Rattle.validity.proofs.States.{core-fits, sizes-fit}
use Rattle.validity.proofs.Conflicts.{back_fits}
use Rattle.validity.proofs.Steps.{Along, back-sized, status-valid}

exclude-at : (d : ℕ) (s : Search) → depth s.core ≡ d → Valid s → Valid (exclude_at d s).state
unfolding exclude_at unchanged with_status status_valid
exclude-at zero s e v = v
exclude-at (suc d) s e v =
    let f = core-fits s v.shape v.tests in
    let z = back-sized (suc d) s.core in
    let a : Along s.core (back_up (suc d) s.core) = record { fits = back_fits d s.core f (omega arith); variables = z.variables; inputs = z.inputs; made = z.made } in
    status-valid s (back_up (suc d) s.core) s.propagations undecided (sizes-fit s v.tests) a tt

exclude-by : (m : Status) (s : Search) → Valid s → Valid (exclude_by m s).state
unfolding exclude_by unchanged
exclude-by undecided s v = v
exclude-by infeasible s v = v
exclude-by solved s v = exclude-at (depth s.core) s refl v

pub exclude-valid : (s : Search) → Valid s → Valid (exclude s).state
unfolding exclude
exclude-valid s v = exclude-by s.status s v

-- ---- a strike inside a listing, by N5's limit
pub limit-kept : (s : Search) → within_limit s ≡ true → exclude_within s ≡ exclude s
unfolding exclude_within
limit-kept s h = rw h

pub limit-passed : (s : Search) → within_limit s ≡ false → exclude_within s ≡ unchanged unsolved s
unfolding exclude_within
limit-passed s h = rw h

pub within-exclude : (s : Search) → s.propagations ≤ max_propagations → exclude_within s ≡ exclude s
within-exclude s h = limit-kept s (unfold within_limit in le-leb s.propagations max_propagations h)

pub past-exclude : (s : Search) → max_propagations < s.propagations → exclude_within s ≡ unchanged unsolved s
past-exclude s h = limit-passed s (unfold within_limit in lt-leb s.propagations max_propagations h)

pub within_by : (P : Excluded → Type 0) (s : Search) → P (exclude s) → P (unchanged unsolved s) → P (exclude_within s)
unfolding exclude_within
within_by P s h u = go (within_limit s)
  where
    go : (b : Bool) → P (cond b (exclude s) (unchanged unsolved s))
    go true = h
    go false = u

pub within-valid : (s : Search) → Valid s → Valid (exclude_within s).state
within-valid s v = within_by (λ e. Valid e.state) s (exclude-valid s v) (unfold unchanged in v)
