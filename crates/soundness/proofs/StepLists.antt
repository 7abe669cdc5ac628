-- Turns one after the other, from a state of an opened search: counts, cuts, and the verdict that every later turn repeats.
use Prim.Native.Nat.{ℕ, zero, suc, ◌+◌, ◌*◌, ◌≤◌, ◌<◌}
use native.Mathlib.Omega.{arith}
use mathlib.Core.List.{List, [], ◌∷◌, ◌++◌}
use mathlib.Core.Option.{Option, none, some}
use mathlib.Core.Path.{◌≡◌, refl, sym, ap, subst, ◌∙◌}
use lib.ListN.{length, length-append}
use Rattle.model_problems.specs.Ranges.{max_variables}
use Rattle.model_problems.specs.Problem.{Problem, variables}
use Rattle.model_walk.specs.Search.{Status, infeasible, solved, Search}
use Rattle.model_walk.specs.Move.{slack}
use Rattle.model_problems.specs.Points.{Point, points}
use Rattle.model_walk.specs.Step.{Verdict, go_on, no_solution, out_of_budget, solution, Outcome, block_in, lowers, again, step_by, step, continue, run_for}
use Rattle.model_claims.specs.Demand.{MeetsCuts}
use Rattle.validity.specs.Valid.{Valid}
use Rattle.validity.proofs.States.{sizes-fit}
use Rattle.validity.proofs.Conflicts.{MeetsInequalities}
use Rattle.validity.proofs.Steps.{step-valid, impossible}
use Rattle.validity.proofs.Repeating.{Told, step-told}
use Rattle.soundness.proofs.OneStep.{Open, Solved, Over, Says, StepSays, step-says}

-- ---- turns one after the other, whether or not the next call would refuse the state: N5's limit is tested once for all the turns of a call
unfoldable pub after_turns : ℕ → Search → Search
after_turns zero s = s
after_turns (suc k) s = after_turns k (step s).state

unfoldable pub turn_blocks : ℕ → Search → List (List ℕ)
turn_blocks zero s = []
turn_blocks (suc k) s = block_in (step s).block ++ turn_blocks k (step s).state

pub state-next : (k : ℕ) (s : Search) → after_turns (suc k) s ≡ (step (after_turns k s)).state
unfolding after_turns
state-next zero s = refl
state-next (suc k) s = state-next k (step s).state

pub valid-after : (k : ℕ) (s : Search) → Valid s → Valid (after_turns k s)
unfolding after_turns
valid-after zero s v = v
valid-after (suc k) s v = valid-after k (step s).state (step-valid s v)

pub step-tells : (s : Search) → Valid s → Told (step s)
step-tells s v = step-told s (sizes-fit s v.tests).conflicts

-- ---- after the verdict
-- the next turn gives the same answer without a block, and leaves the state
pub record Repeats (o : Outcome) : Type 0 where
  pub state : (step o.state).state ≡ o.state
  pub verdict : (step o.state).verdict ≡ o.verdict
  pub count : (step o.state).count ≡ o.count
  pub propagations : (step o.state).propagations ≡ o.propagations
  pub block : (step o.state).block ≡ none

no_block : (b : Option (List ℕ)) → length (block_in b) ≡ 0 → b ≡ none
unfolding block_in
no_block none h = refl
no_block (some b) h = let z : ⊥ = omega arith in absurd z

marked : (s : Search) (m : Status) (v : Verdict) → s.status ≡ m → step_by m s ≡ again s v → step s ≡ again s v
unfolding step
marked s m v e h = ap (λ (x : Status). step_by x s) e ∙ h

again-repeats : (o : Outcome) → Told o → step o.state ≡ again o.state o.verdict → Repeats o
unfolding again
again-repeats o c e =
    record {
      state = ap (λ (x : Outcome). x.state) e;
      verdict = ap (λ (x : Outcome). x.verdict) e;
      count = ap (λ (x : Outcome). x.count) e ∙ sym c.count;
      propagations = ap (λ (x : Outcome). x.propagations) e ∙ sym c.propagations;
      block = ap (λ (x : Outcome). x.block) e;
    }

-- a marked state
again-stays : (s : Search) (v : Verdict) → step s ≡ again s v → Repeats (step s)
again-stays s v e = subst Repeats (sym e) (unfold again in again-repeats (again s v) (unfold again in record { count = refl; propagations = refl }) (unfold again in e))

module _ (p : Problem) (Left : Point → Type 0) (struck : ℕ) where
  pub solved-again : (s : Search) → Solved p Left struck s → step s ≡ again s (solution (lowers s.core.deepest.box))
  unfolding step_by
  solved-again s d = marked s solved (solution (lowers s.core.deepest.box)) d.at.status refl

  pub over-again : (s : Search) → Over p Left struck s → step s ≡ again s no_solution
  unfolding step_by
  over-again s d = marked s infeasible no_solution d.status refl

  says-repeats : (s : Search) (v : Verdict) → Told (step s) → StepSays p Left struck s (step s) → (step s).verdict ≡ v → Says p Left struck s (step s) v → ¬ (v ≡ go_on) → Repeats (step s)
  says-repeats s go_on w t e h n = absurd (n refl)
  says-repeats s no_solution w t e h n = again-repeats (step s) w (rw e (over-again (step s).state h))
  says-repeats s (solution x) w t e h n = again-repeats (step s) w (rw (e, h.1) (solved-again (step s).state h.0))
  says-repeats s out_of_budget w t e h n =
      let same = h.0 in
      record {
        state = ap (λ (x : Search). (step x).state) same;
        verdict = ap (λ (x : Search). (step x).verdict) same;
        count = ap (λ (x : Search). (step x).count) same;
        propagations = ap (λ (x : Search). (step x).propagations) same;
        block = rw same (no_block (step s).block (omega (arith, t.blocks, ap (λ (x : Search). x.conflicts) same)));
      }

  pub repeats : (s : Search) → Open p Left struck s → ¬ ((step s).verdict ≡ go_on) → Repeats (step s)
  repeats s o n = let t = step-says p Left struck s o in says-repeats s (step s).verdict (step-told s o.afford) t refl t.says n

  -- ---- the states of a list: without a verdict, or marked with it. One that is out of budget is as before its turn
  pub data Reached (s : Search) : Type 0 where
    still : Open p Left struck s → Reached s
    found : Solved p Left struck s → Reached s
    over : Over p Left struck s → Reached s

  pub repeats-reached : (s : Search) → Reached s → ¬ ((step s).verdict ≡ go_on) → Repeats (step s)
  repeats-reached s (still o) n = repeats s o n
  repeats-reached s (found d) n = again-stays s _ (solved-again s d)
  repeats-reached s (over d) n = again-stays s _ (over-again s d)

  pub reached-few : (s : Search) → Reached s → s.conflicts + struck ≤ points p
  reached-few s (still o) = omega (arith, o.total)
  reached-few s (found d) = omega (arith, d.at.total)
  reached-few s (over d) = d.total

  pub reached-creeps : (s : Search) → Reached s → s.propagations ≤ suc (s.conflicts + struck) * slack p.domain
  reached-creeps s (still o) = omega (arith, o.creeps)
  reached-creeps s (found d) = omega (arith, d.at.creeps)
  reached-creeps s (over d) = omega (arith, d.creeps)

  pub says-next : (s : Search) (v : Verdict) → Open p Left struck s → Says p Left struck s (step s) v → Reached (step s).state
  says-next s go_on o h = still h.0
  says-next s no_solution o h = over h
  says-next s out_of_budget o h = still (subst (Open p Left struck) (sym h.0) o)
  says-next s (solution x) o h = found h.0

  -- what one turn gives, whatever was reached
  pub record Stepped (s : Search) : Type 0 where
    pub next : Reached (step s).state
    pub blocks : length (block_in (step s).block) + s.conflicts ≡ (step s).state.conflicts
    pub cuts : variables p ≤ max_variables → (x : Point) → MeetsInequalities x p.constraints → MeetsCuts (variables p) x (block_in (step s).block)

  again-stepped : (s : Search) (v : Verdict) → Reached s → step s ≡ again s v → Stepped s
  unfolding again block_in
  again-stepped s v r e =
      let same = ap (λ (o : Outcome). o.state) e in
      let none-given = ap (λ (o : Outcome). o.block) e in
      record {
        next = subst Reached (sym same) r;
        blocks = omega (arith, ap (λ (x : Search). x.conflicts) same, ap (λ (b : Option (List ℕ)). length (block_in b)) none-given);
        cuts = λ m x z. subst (λ (b : Option (List ℕ)). MeetsCuts (variables p) x (block_in b)) (sym none-given) tt;
      }

  pub stepped : (s : Search) → Reached s → Stepped s
  stepped s (still o) =
      let t = step-says p Left struck s o in
      record { next = says-next s (step s).verdict o t.says; blocks = t.blocks; cuts = t.cuts }
  stepped s (found d) = again-stepped s _ (found d) (solved-again s d)
  stepped s (over d) = again-stepped s _ (over d) (over-again s d)

-- ---- every list
module _ (p : Problem) (Left : Point → Type 0) (struck : ℕ) where
  pub reached-after : (k : ℕ) (s : Search) → Reached p Left struck s → Reached p Left struck (after_turns k s)
  unfolding after_turns
  reached-after zero s r = r
  reached-after (suc k) s r = reached-after k (step s).state (stepped p Left struck s r).next

  pub list-conflicts : (k : ℕ) (s : Search) → Reached p Left struck s → (after_turns k s).conflicts ≡ length (turn_blocks k s) + s.conflicts
  unfolding after_turns turn_blocks
  list-conflicts zero s r = omega arith
  list-conflicts (suc k) s r =
      let t = stepped p Left struck s r in
      omega (arith, t.blocks, length-append (block_in (step s).block) (turn_blocks k (step s).state), list-conflicts k (step s).state t.next)

  pub list_counted : (k : ℕ) (s : Search) → Valid s → Reached p Left struck s → (step (after_turns k s)).count ≡ length (turn_blocks (suc k) s) + s.conflicts
  list_counted k s v r = (step-tells (after_turns k s) (valid-after k s v)).count ∙ ap (λ (x : Search). x.conflicts) (sym (state-next k s)) ∙ list-conflicts (suc k) s r

  pub list-few : (k : ℕ) (s : Search) → Reached p Left struck s → length (turn_blocks k s) + s.conflicts + struck ≤ points p
  list-few k s r = omega (arith, list-conflicts k s r, reached-few p Left struck (after_turns k s) (reached-after k s r))

pub cuts-append : (n : ℕ) (x : Point) (a b : List (List ℕ)) → MeetsCuts n x a → MeetsCuts n x b → MeetsCuts n x (a ++ b)
cuts-append n x [] b h g = g
cuts-append n x (c ∷ a) b h g = (h.0, cuts-append n x a b h.1 g)

-- every point that meets the problem's inequalities meets every cut, inside the limits or not
pub list-cuts : (p : Problem) (Left : Point → Type 0) (struck : ℕ) (k : ℕ) (s : Search) → variables p ≤ max_variables → Reached p Left struck s → (x : Point) → MeetsInequalities x p.constraints → MeetsCuts (variables p) x (turn_blocks k s)
unfolding turn_blocks
list-cuts p Left struck zero s m r x z = tt
list-cuts p Left struck (suc k) s m r x z =
    let t = stepped p Left struck s r in
    cuts-append (variables p) x (block_in (step s).block) (turn_blocks k (step s).state) (t.cuts m x z) (list-cuts p Left struck k (step s).state m t.next x z)

-- ---- the verdict is reached, and a run gives it
abbrev pub SaysSame : Outcome → Outcome → Type 0
SaysSame o u = (o.verdict ≡ u.verdict) × (o.count ≡ u.count) × (o.propagations ≡ u.propagations)

pub record Ends (s : Search) (o : Outcome) : Type 0 where
  pub last : ℕ
  pub before : (k : ℕ) → k < last → (step (after_turns k s)).verdict ≡ go_on
  pub ran : o ≡ step (after_turns last s)
  pub reached : ¬ (o.verdict ≡ go_on)
  pub later : (k : ℕ) → last ≤ k → SaysSame (step (after_turns k s)) o

pub fixed-after : (k : ℕ) (s : Search) → (step s).state ≡ s → after_turns k s ≡ s
unfolding after_turns
fixed-after zero s e = refl
fixed-after (suc k) s e = ap (after_turns k) e ∙ fixed-after k s e

pub later_same : (k : ℕ) (s : Search) → Repeats (step s) → SaysSame (step (after_turns k s)) (step s)
unfolding after_turns
later_same zero s r = (refl, refl, refl)
later_same (suc k) s r = rw (fixed-after k (step s).state r.state) (r.verdict, r.count, r.propagations)

-- the first turn gives the verdict
ends_now : (s : Search) → ¬ ((step s).verdict ≡ go_on) → Repeats (step s) → Ends s (step s)
unfolding after_turns
ends_now s n r =
    record { last = 0; before = λ k h. let z : ⊥ = omega arith in absurd z; ran = refl; reached = n; later = λ k h. later_same k s r }

-- the first turn goes on
ends_on : (s : Search) (o : Outcome) → (step s).verdict ≡ go_on → Ends (step s).state o → Ends s o
unfolding after_turns
ends_on s o e r =
    record {
      last = suc r.last;
      before = λ k. elim k as (λ (k : ℕ). k < suc r.last → (step (after_turns k s)).verdict ≡ go_on) [ zero ↦ λ h. e | suc k ↦ λ h. r.before k (omega arith) ];
      ran = r.ran;
      reached = r.reached;
      later = λ k. elim k as (λ (k : ℕ). suc r.last ≤ k → SaysSame (step (after_turns k s)) o) [ zero ↦ λ h. let z : ⊥ = omega arith in absurd z | suc k ↦ λ h. r.later k (omega arith) ];
    }

continue-ends : (s : Search) (v : Verdict) (go : Search → Outcome) → (step s).verdict ≡ v → (¬ (v ≡ go_on) → Repeats (step s)) →
    (v ≡ go_on → Ends (step s).state (go (step s).state)) → Ends s (continue v (step s) go)
unfolding continue
continue-ends s go_on go e r next = ends_on s (go (step s).state) e (next refl)
continue-ends s no_solution go e r next = ends_now s (λ n. impossible (cc)) (r (λ n. impossible (cc)))
continue-ends s out_of_budget go e r next = ends_now s (λ n. impossible (cc)) (r (λ n. impossible (cc)))
continue-ends s (solution x) go e r next = ends_now s (λ n. impossible (cc)) (r (λ n. impossible (cc)))

goes-open : (p : Problem) (Left : Point → Type 0) (struck : ℕ) (s : Search) → Open p Left struck s → (step s).verdict ≡ go_on → Open p Left struck (step s).state × ((step s).state.conflicts ≡ suc s.conflicts)
goes-open p Left struck s o e = subst (λ (v : Verdict). Says p Left struck s (step s) v) e (step-says p Left struck s o).says

pub run-ends-list : (p : Problem) (Left : Point → Type 0) (struck : ℕ) (fuel : ℕ) (s : Search) → Open p Left struck s → s.conflicts + fuel ≡ s.budget → Ends s (run_for fuel s)
unfolding run_for
run-ends-list p Left struck zero s o h =
    let n : ¬ ((step s).verdict ≡ go_on) = λ e. let g = goes-open p Left struck s o e in omega (arith, g.1, g.0.afford, g.0.budget, o.budget) in
    ends_now s n (repeats p Left struck s o n)
run-ends-list p Left struck (suc fuel) s o h =
    continue-ends s (step s).verdict (run_for fuel) refl (repeats p Left struck s o)
    (λ e. let g = goes-open p Left struck s o e in run-ends-list p Left struck fuel (step s).state g.0 (omega (arith, g.1, g.0.budget, o.budget)))
