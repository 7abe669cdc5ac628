-- Turns with strikes among them are N4's listing: a strike counts no conflict, so what a run leaves of the turns is enough for the next one.
use Prim.Native.Nat.{ℕ, zero, suc, ◌-◌}
use native.Mathlib.Omega.{arith}
use mathlib.Core.List.{[], ◌∷◌, ◌++◌}
use mathlib.Core.Path.{◌≡◌, refl, ap}
use lib.ListN.{length}
use Rattle.model_walk.specs.Search.{Status, undecided, infeasible, solved, Search, depth}
use Rattle.model_walk.specs.Step.{Verdict, go_on, no_solution, out_of_budget, solution, Outcome, block_in, with_status, without_block, run}
use Rattle.model_walk.specs.Trace.{Trace, last_step, advance}
use Rattle.model_walk.specs.Exclude.{Exclusion, struck, ended, unsolved, unchanged, exclude_at, exclude_by, exclude, exclude_within}
use Rattle.model_walk.specs.Listing.{Listing, ends_with, list_after, goes_on, list_from}
use Rattle.validity.specs.Valid.{Valid}
use Rattle.validity.proofs.States.{sizes-fit}
use Rattle.validity.proofs.Steps.{Counted}
use Rattle.validity.proofs.Excluding.{within_by, within-valid}
use Rattle.validity.proofs.Repeating.{Same, run-same, advance-counted}
use Rattle.turns.specs.Advancing.{advance_over}
use Rattle.answers.proofs.Proceeding.{advance-valid}

-- ---- a strike counts no conflict
at-counted : (d : ℕ) (s : Search) → Counted s [] (exclude_at d s).state
unfolding exclude_at unchanged with_status
at-counted zero s = record { conflicts = omega arith; budget = refl }
at-counted (suc d) s = record { conflicts = omega arith; budget = refl }

by-counted : (m : Status) (s : Search) → Counted s [] (exclude_by m s).state
unfolding exclude_by unchanged
by-counted undecided s = record { conflicts = omega arith; budget = refl }
by-counted infeasible s = record { conflicts = omega arith; budget = refl }
by-counted solved s = at-counted (depth s.core) s

within-counted : (s : Search) → Counted s [] (exclude_within s).state
unfolding unchanged
within-counted s = within_by (λ e. Counted s [] e.state) s (unfold exclude in by-counted s.status s) (record { conflicts = omega arith; budget = refl })

-- ---- a run's answer has no block
unfoldable pub without_blocks : Trace → Trace
without_blocks t = record { verdict = t.verdict; count = t.count; propagations = t.propagations; blocks = []; state = t.state }

pub record Lists (a : Listing Trace) (b : Listing Outcome) : Type 0 where
  pub struck : a.struck ≡ b.struck
  pub last : without_blocks a.last ≡ last_step b.last

same-trace : {v w : Verdict} {c d k l : ℕ} {s t : Search} → v ≡ w → c ≡ d → k ≡ l → s ≡ t →
    ◌≡◌ {A = Trace} (record { verdict = v; count = c; propagations = k; blocks = []; state = s }) (record { verdict = w; count = d; propagations = l; blocks = []; state = t })
same-trace e f g h = rw (e, f, g, h)

run-last : (s : Search) → Valid s → without_blocks (advance (suc (s.budget - s.conflicts)) s) ≡ last_step (run s)
unfolding without_blocks last_step block_in run without_block
run-last s v = let r : Same (advance (suc (s.budget - s.conflicts)) s) (run s) = run-same s v in same-trace r.verdict r.count r.propagations r.state

-- ---- from solution to solution
goes-lists : (v : Verdict) (x : Exclusion) (t : Trace) (o : Outcome) (l : Listing Trace) (k : Listing Outcome) → without_blocks t ≡ last_step o → Lists l k → Lists (goes_on v x t l) (goes_on v x o k)
unfolding goes_on ends_with list_after
goes-lists (solution w) struck t o l k e h = record { struck = ap (λ vs. (w ∷ []) ++ vs) h.struck; last = h.last }
goes-lists (solution w) ended t o l k e h = record { struck = refl; last = e }
goes-lists (solution w) unsolved t o l k e h = record { struck = refl; last = e }
goes-lists go_on x t o l k e h = record { struck = refl; last = e }
goes-lists no_solution x t o l k e h = record { struck = refl; last = e }
goes-lists out_of_budget x t o l k e h = record { struck = refl; last = e }

next-lists : {v w : Verdict} {s u : Search} (t : Trace) (o : Outcome) (go : Search → Listing Trace) (to : Search → Listing Outcome) → v ≡ w → s ≡ u → without_blocks t ≡ last_step o →
    Lists (go (exclude_within s).state) (to (exclude_within s).state) →
    Lists (goes_on v (exclude_within s).answer t (go (exclude_within s).state)) (goes_on w (exclude_within u).answer o (to (exclude_within u).state))
next-lists {v} {w} {s} t o go to p q e h = rw (← p, ← q) (goes-lists v (exclude_within s).answer t o (go (exclude_within s).state) (to (exclude_within s).state) e h)

pub lists-same : (room : ℕ) (s : Search) → Valid s → Lists (advance_over room (suc (s.budget - s.conflicts)) s) (list_from room s)
unfolding advance_over list_from ends_with
lists-same zero s v = record { struck = refl; last = run-last s v }
lists-same (suc room) s v =
    let limit = suc (s.budget - s.conflicts) in
    let t = advance limit s in
    let w = advance-valid limit s v in
    let e = (exclude_within t.state).state in
    let c = advance-counted limit s v in
    let d = within-counted t.state in
    let left : limit - length t.blocks ≡ suc (e.budget - e.conflicts) = omega (arith, c.conflicts, c.budget, d.conflicts, d.budget, (sizes-fit t.state w.tests).conflicts) in
    let r = run-same s v in
    next-lists t (run s) (advance_over room (limit - length t.blocks)) (list_from room) r.verdict r.state (run-last s v) (rw left (lists-same room e (within-valid t.state w)))
