-- N4's listing in one call is a list of calls: runs and strikes by turns, then a run.
use Prim.Native.Nat.{ℕ, zero, suc, ◌+◌, ◌-◌, ◌≤◌}
use native.Mathlib.Omega.{arith}
use mathlib.Core.Bool.{Bool, true, false, ◌&&◌}
use mathlib.Core.List.{List, [], ◌∷◌, ◌++◌, append-nil, append_assoc}
use mathlib.Core.Logic.{◌⊎◌, inl, inr, ⊎_elim}
use mathlib.Core.Option.{some}
use mathlib.Core.Path.{◌≡◌, refl, sym, ap, subst, ◌∙◌}
use lib.ListN.{length, get_elem?}
use Rattle.model_problems.specs.Constraint.{Box}
use Rattle.model_problems.specs.Problem.{Problem, variables}
use Rattle.model_walk.specs.Search.{Status, undecided, infeasible, solved, Search, depth, open_problem}
use Rattle.model_walk.specs.Validity.{valid, within_limit, admitted}
use Rattle.model_problems.specs.Points.{Point, Inside, all_solutions}
use Rattle.model_walk.specs.Step.{Verdict, go_on, no_solution, out_of_budget, solution, Outcome, block_in, again, step_by, step, continue, run_for, without_block, run}
use Rattle.model_walk.specs.Trace.{last_step}
use Rattle.model_walk.specs.Exclude.{Exclusion, struck, ended, unsolved, unchanged, exclude_at, exclude_by, exclude, exclude_within}
use Rattle.model_walk.specs.Listing.{Listing, ends_with, list_after, goes_on, list_from, room_at, list}
use Rattle.model_acceptance.specs.Acceptable.{Acceptable}
use Rattle.model_claims.specs.Demand.{In}
use Rattle.model_claims.specs.Enumeration.{Call, all_turns, strike, verdict, exclusion, Answer, traced, excluded, taken, answer, walk, says, blocks_of, shown_in, stands_after, stands, shown, struck_in, strikes, Ends, KeptUp, Enumerates}
use Rattle.lists.proofs.Bools.{true_of, and_both}
use Rattle.validity.proofs.Every.{Every}
use Rattle.validity.proofs.Elements.{Holds, holds_elem}
use Rattle.validity.proofs.Steps.{run_ends, impossible}
use Rattle.validity.proofs.Excluding.{limit-kept, limit-passed}
use Rattle.soundness.proofs.Solutions.{solutions-every}
use Rattle.soundness.proofs.Excluding.{exclude-set}
use Rattle.soundness.proofs.StepLists.{Reached, still, found, over}
use Rattle.soundness.proofs.Standing.{is_solved, answered, standing}
use Rattle.soundness.proofs.Demand.{fits-of, sized_of}
use Rattle.soundness.proofs.Listings.{fresh, listings-of-problems}

-- k times a run and a strike, after the calls cs
unfoldable pub rounds : ℕ → List Call → List Call
rounds zero cs = cs
rounds (suc k) cs = rounds k (strike ∷ all_turns ∷ cs)

-- ---- solutions at positions k, k + 1, .. of all solutions
abbrev pub Placed : Problem → ℕ → List Point → Type 0
Placed p k [] = Unit {0}
Placed p k (v ∷ vs) = (get_elem? (all_solutions p) k ≡ some v) × Placed p (suc k) vs

inside-long : (v : Point) (box : Box) → Inside v box → length v ≡ length box
inside-long [] [] h = refl
inside-long [] (b ∷ box) h = absurd h
inside-long (x ∷ v) [] h = absurd h
inside-long (x ∷ v) (b ∷ box) h = ap suc (inside-long v box h.2)

every_in : (P : Point → Type 0) (us : List Point) → ((x : Point) → In x us → P x) → Every P us
every_in P [] f = tt
every_in P (u ∷ us) f = (f u (inl refl), every_in P us (λ x h. f x (inr h)))

-- each has a value for each variable
abbrev pub Wide : Problem → Point → Type 0
Wide p v = length v ≡ variables p

all-wide : (p : Problem) → Every (Wide p) (all_solutions p)
unfolding variables
all-wide p = every_in (Wide p) (all_solutions p) (λ x i. inside-long x p.domain ((solutions-every p x).1 i).inside)

pub placed-wide : (p : Problem) (k : ℕ) (vs : List Point) → Placed p k vs → Every (Wide p) vs
placed-wide p k [] h = tt
placed-wide p k (v ∷ vs) h = (subst (Holds (Wide p)) h.0 (holds_elem (Wide p) (all_solutions p) k (all-wide p)), placed-wide p (suc k) vs h.1)

-- ---- calls between the calls cs and the calls ds, which come after them: they show and strike out the solutions vs, and no other stands
pub record Between (p : Problem) (m : Search) (cs ds : List Call) (vs : List Point) : Type 0 where
  pub stand : stands ds m ≡ stands cs m
  pub show : shown ds m ≡ shown cs m ++ vs
  pub strike : strikes ds m ≡ length vs + strikes cs m
  pub block : blocks_of ds m ≡ blocks_of cs m
  pub kept : KeptUp cs m → KeptUp ds m
  pub marked : stands cs m ≡ true → vs ≡ []
  pub places : Placed p (strikes cs m) vs

pub nothing-between : (p : Problem) (m : Search) (cs : List Call) → Between p m cs cs []
nothing-between p m cs = record { stand = refl; show = sym (append-nil (shown cs m)); strike = omega arith; block = refl; kept = λ k. k; marked = λ h. refl; places = tt }

-- as calls, none of k runs and their strikes, and of the run after them, is refused
abbrev pub Ready : Search → ℕ → List Call → Type 0
Ready m zero cs = admitted (walk cs m) ≡ true
Ready m (suc k) cs = (admitted (walk cs m) ≡ true) × (admitted (walk (all_turns ∷ cs) m) ≡ true) × Ready m k (strike ∷ all_turns ∷ cs)

pub last-ready : (m : Search) (k : ℕ) (cs : List Call) → Ready m k cs → admitted (walk (rounds k cs) m) ≡ true
unfolding rounds
last-ready m zero cs h = h
last-ready m (suc k) cs h = last-ready m k (strike ∷ all_turns ∷ cs) h.2

-- a listing that struck out k solutions ends with another one, after the calls ds: there is no room left, that is the last one, or N5's limit is passed
abbrev pub Full : Problem → Search → List Call → ℕ → ℕ → Type 0
Full p m ds k room = (k ≡ room) ⊎ ((shown (all_turns ∷ ds) m ≡ all_solutions p) ⊎ (admitted (walk (all_turns ∷ ds) m) ≡ false))

-- what a listing with so much room gives after the calls cs
pub record InPlace (p : Problem) (m : Search) (cs : List Call) (room : ℕ) (l : Listing Outcome) : Type 0 where
  pub between : Between p m cs (rounds (length l.struck) cs) l.struck
  pub last : run (walk (rounds (length l.struck) cs) m) ≡ l.last
  pub ready : Ready m (length l.struck) cs
  pub few : length l.struck ≤ room
  pub full : (v : Point) → stands cs m ≡ false → l.last.verdict ≡ solution v → Full p m (rounds (length l.struck) cs) (length l.struck) room

-- ---- of the definitions
-- a run that finds no solution ends the listing
abbrev Plain : Verdict → Type 0
Plain go_on = Unit {0}
Plain no_solution = Unit {0}
Plain out_of_budget = Unit {0}
Plain (solution x) = ⊥

ends-at-once : (room : ℕ) (s : Search) (v : Verdict) → Plain v → (run s).verdict ≡ v → (list_from room s).struck ≡ []
unfolding list_from goes_on ends_with
ends-at-once zero s v h e = refl
ends-at-once (suc room) s go_on h e = rw e refl
ends-at-once (suc room) s no_solution h e = rw e refl
ends-at-once (suc room) s out_of_budget h e = rw e refl
ends-at-once (suc room) s (solution x) h e = absurd h

-- a walk marked 'none' says so again
run_none : (s : Search) → s.status ≡ infeasible → (run s).verdict ≡ no_solution
unfolding run without_block run_for step step_by again continue
run_none s e = go (s.budget - s.conflicts)
  where
    go : (fuel : ℕ) → (run_for fuel s).verdict ≡ no_solution
    go zero = rw e refl
    go (suc fuel) = rw e refl

-- a strike of a marked solution
exclude-solved : (s : Search) → is_solved s.status ≡ true → ¬ ((exclude s).answer ≡ unsolved)
unfolding is_solved exclude exclude_by exclude_at unchanged
exclude-solved s = go s.status
  where
    at : (d : ℕ) → ¬ ((exclude_at d s).answer ≡ unsolved)
    at zero e = impossible (cc)
    at (suc d) e = impossible (cc)

    go : (x : Status) → is_solved x ≡ true → ¬ ((exclude_by x s).answer ≡ unsolved)
    go undecided h = impossible (cc)
    go infeasible h = impossible (cc)
    go solved h = at (depth s.core)

-- ---- N5's limit
beyond-limit : (s : Search) → within_limit s ≡ false → admitted s ≡ false
unfolding admitted
beyond-limit s h = rw h (none (valid s))
  where
    none : (t : Bool) → (t && false) ≡ false
    none true = refl
    none false = refl

unstruck-ends : (v : Verdict) (o : Outcome) (l : Listing Outcome) → goes_on v unsolved o l ≡ ends_with o
unfolding goes_on
unstruck-ends go_on o l = refl
unstruck-ends no_solution o l = refl
unstruck-ends out_of_budget o l = refl
unstruck-ends (solution v) o l = refl

module _ (p : Problem) (m : Search) (z : Enumerates p m) where
  ran : (cs : List Call) → admitted (walk cs m) ≡ true → answer all_turns (walk cs m) ≡ traced (last_step (run (walk cs m)))
  unfolding taken
  ran cs a = answered all_turns (walk cs m) a

  state-ran : (cs : List Call) → admitted (walk cs m) ≡ true → walk (all_turns ∷ cs) m ≡ (run (walk cs m)).state
  unfolding walk traced last_step
  state-ran cs a = ap (λ (x : Answer). x.state) (ran cs a)

  said-run : (cs : List Call) → admitted (walk cs m) ≡ true → says all_turns cs m ≡ verdict (run (walk cs m)).verdict
  unfolding says traced last_step
  said-run cs a = ap (λ (x : Answer). x.reply) (ran cs a)

  -- ---- after a verdict nothing is struck out
  again-run : (c : Call) (cs : List Call) (v : Verdict) → admitted (walk (c ∷ cs) m) ≡ true → says c cs m ≡ verdict v → ¬ (v ≡ go_on) → (run (walk (c ∷ cs) m)).verdict ≡ v
  again-run c cs v a e n = let f = sym (said-run (c ∷ cs) a) ∙ (z.again c all_turns cs v a e n tt).0 in cc

  pub none-again : (c : Call) (cs : List Call) (v : Verdict) (room : ℕ) → admitted (walk (c ∷ cs) m) ≡ true → says c cs m ≡ verdict v → ¬ (v ≡ go_on) → InPlace p m (c ∷ cs) room (list room (walk (c ∷ cs) m)) →
      (list room (walk (c ∷ cs) m)).struck ≡ []
  unfolding list stands stands_after
  none-again c cs go_on room a e n i = absurd (n refl)
  none-again c cs no_solution room a e n i = ends-at-once (room_at (walk (c ∷ cs) m).status room) (walk (c ∷ cs) m) no_solution tt (again-run c cs no_solution a e n)
  none-again c cs out_of_budget room a e n i = ends-at-once (room_at (walk (c ∷ cs) m).status room) (walk (c ∷ cs) m) out_of_budget tt (again-run c cs out_of_budget a e n)
  none-again c cs (solution x) room a e n i = i.between.marked (rw e refl)

  -- ---- a run to the solution v, within N5's limit
  module _ (cs : List Call) (v : Point) (a : admitted (walk cs m) ≡ true) (found : (run (walk cs m)).verdict ≡ solution v) (ready : admitted (walk (all_turns ∷ cs) m) ≡ true) where
    said : says all_turns cs m ≡ verdict (solution v)
    said = said-run cs a ∙ ap verdict found

    stood : stands (all_turns ∷ cs) m ≡ true
    unfolding stands stands_after
    stood = rw said refl

    strikes-out : answer strike (walk (all_turns ∷ cs) m) ≡ excluded (exclude (run (walk cs m)).state)
    unfolding taken
    strikes-out = answered strike (walk (all_turns ∷ cs) m) ready ∙ ap (λ (s : Search). excluded (exclude s)) (state-ran cs a)

    said-strike : (e : Exclusion) → (exclude (run (walk cs m)).state).answer ≡ e → says strike (all_turns ∷ cs) m ≡ exclusion e
    unfolding says excluded
    said-strike e g = ap (λ (x : Answer). x.reply) strikes-out ∙ ap exclusion g

    -- that ends the listing: it is the last one
    shows-last : (exclude (run (walk cs m)).state).answer ≡ ended → shown (all_turns ∷ cs) m ≡ all_solutions p
    shows-last g = sym (still-shown ∙ append-nil (shown (all_turns ∷ cs) m)) ∙ z.complete strike (all_turns ∷ cs) (inl (said-strike ended g))
      where
        still-shown : shown (strike ∷ all_turns ∷ cs) m ≡ shown (all_turns ∷ cs) m ++ []
        still-shown = unfold shown in rw stood refl

    -- and its strike
    module _ (none : stands cs m ≡ false) (gone : (exclude (run (walk cs m)).state).answer ≡ struck) where
      abbrev ds : List Call
      ds = strike ∷ all_turns ∷ cs

      state-struck : walk ds m ≡ (exclude (run (walk cs m)).state).state
      unfolding walk excluded
      state-struck = ap (λ (x : Answer). x.state) strikes-out

      none-stands : stands ds m ≡ false
      unfolding stands stands_after
      none-stands = rw (said-strike struck gone) refl

      shows : shown ds m ≡ shown cs m ++ (v ∷ [])
      unfolding shown shown_in
      shows = rw (none, said, stood) (append-nil (shown cs m ++ (v ∷ [])))

      counts : strikes ds m ≡ suc (strikes cs m)
      unfolding strikes struck_in
      counts = rw (said-strike struck gone, said) (omega arith)

      silent : blocks_of ds m ≡ blocks_of cs m
      unfolding blocks_of traced excluded last_step run without_block block_in
      silent = rw (strikes-out, ran cs a) (append-nil (blocks_of cs m ++ []) ∙ append-nil (blocks_of cs m))

      keeps : KeptUp cs m → KeptUp ds m
      keeps k = (rw stood tt, (λ h. not-ended (subst Ends (said-strike struck gone) h)), (rw none tt, (λ h. not-over (subst Ends said h)), k))
        where
          not-ended : ¬ (Ends (exclusion struck))
          not-ended (inl (inl h)) = impossible (cc)
          not-ended (inl (inr h)) = impossible (cc)
          not-ended (inr (inl h)) = impossible (cc)
          not-ended (inr (inr h)) = impossible (cc)

          not-over : ¬ (Ends (verdict (solution v)))
          not-over (inl (inl h)) = impossible (cc)
          not-over (inl (inr h)) = impossible (cc)
          not-over (inr (inl h)) = impossible (cc)
          not-over (inr (inr h)) = impossible (cc)

      goes_on_lem : (room : ℕ) (l : Listing Outcome) → InPlace p m ds room l → InPlace p m cs (suc room) (list_after (v ∷ []) l)
      unfolding list_after rounds
      goes_on_lem room l i =
          let b = i.between in
          record {
            between = record {
              stand = b.stand ∙ none-stands ∙ sym none;
              show = b.show ∙ ap (λ (us : List Point). us ++ l.struck) shows ∙ append_assoc (shown cs m) (v ∷ []) l.struck;
              strike = omega (arith, b.strike, counts);
              block = b.block ∙ silent;
              kept = λ k. b.kept (keeps k);
              marked = λ h. impossible (let e = sym none ∙ h in cc);
              places = (z.position all_turns cs v said, subst (λ (k : ℕ). Placed p k l.struck) counts b.places);
            };
            last = i.last;
            ready = (a, ready, i.ready);
            few = omega (arith, i.few);
            full = λ u h e. ⊎_elim (λ q. inl (ap suc q)) inr (i.full u none-stands e);
          }

  -- ---- a listing
  -- one that ends with the first run
  ends-here : (cs : List Call) (room : ℕ) → admitted (walk cs m) ≡ true → ((v : Point) → stands cs m ≡ false → (run (walk cs m)).verdict ≡ solution v → Full p m cs 0 room) → InPlace p m cs room (ends_with (run (walk cs m)))
  unfolding ends_with rounds
  ends-here cs room a f = record { between = nothing-between p m cs; last = refl; ready = a; few = omega arith; full = f }

  module _ (mark : (cs : List Call) → stands cs m ≡ is_solved (walk cs m).status) (whole : (cs : List Call) → valid (walk cs m) ≡ true) where
    within-admitted : (cs : List Call) → within_limit (walk cs m) ≡ true → admitted (walk cs m) ≡ true
    unfolding admitted
    within-admitted cs h = and_both (whole cs) h

    one_more : (room : ℕ) (cs : List Call) → admitted (walk cs m) ≡ true → stands cs m ≡ false →
        (admitted (walk (strike ∷ all_turns ∷ cs) m) ≡ true → stands (strike ∷ all_turns ∷ cs) m ≡ false → InPlace p m (strike ∷ all_turns ∷ cs) room (list_from room (walk (strike ∷ all_turns ∷ cs) m))) →
        InPlace p m cs (suc room) (list_from (suc room) (walk cs m))
    unfolding list_from goes_on unchanged
    one_more room cs a none next = limited (within_limit x) refl
      where
        x : Search
        x = (run (walk cs m)).state

        by : (v : Verdict) (e : Exclusion) → (run (walk cs m)).verdict ≡ v → (exclude x).answer ≡ e → within_limit x ≡ true → InPlace p m cs (suc room) (goes_on v e (run (walk cs m)) (list_from room (exclude x).state))
        by (solution v) struck f g h =
            let ready = within-admitted (all_turns ∷ cs) (rw (state-ran cs a) h) in
            let there = state-struck cs v a f ready none g in
            let again = within-admitted (strike ∷ all_turns ∷ cs) (rw there (unfold within_limit in rw (exclude-set x) (unfold within_limit in h))) in
            goes_on_lem cs v a f ready none g room (list_from room (exclude x).state)
            (subst (λ (s : Search). InPlace p m (strike ∷ all_turns ∷ cs) room (list_from room s)) there (next again (none-stands cs v a f ready none g)))
        by (solution v) ended f g h = ends-here cs (suc room) a (λ u n k. inr (inl (shows-last cs v a f (within-admitted (all_turns ∷ cs) (rw (state-ran cs a) h)) g)))
        by (solution v) unsolved f g h =
            let ready = within-admitted (all_turns ∷ cs) (rw (state-ran cs a) h) in
            let solved-now = ap (λ (s : Search). is_solved s.status) (sym (state-ran cs a)) ∙ sym (mark (all_turns ∷ cs)) ∙ stood cs v a f ready in
            ends-here cs (suc room) a (λ u n k. absurd (exclude-solved x solved-now g))
        by go_on e f g h = ends-here cs (suc room) a (λ u n k. impossible (cc))
        by no_solution e f g h = ends-here cs (suc room) a (λ u n k. impossible (cc))
        by out_of_budget e f g h = ends-here cs (suc room) a (λ u n k. impossible (cc))

        limited : (t : Bool) → within_limit x ≡ t → InPlace p m cs (suc room) (goes_on (run (walk cs m)).verdict (exclude_within x).answer (run (walk cs m)) (list_from room (exclude_within x).state))
        limited true h = rw (limit-kept x h) (by (run (walk cs m)).verdict (exclude x).answer refl refl h)
        limited false h =
            rw (limit-passed x h, unstruck-ends (run (walk cs m)).verdict (run (walk cs m)) (list_from room x))
            (ends-here cs (suc room) a (λ u n k. inr (inr (rw (state-ran cs a) (beyond-limit x h)))))

    from-unmarked : (room : ℕ) (cs : List Call) → admitted (walk cs m) ≡ true → stands cs m ≡ false → InPlace p m cs room (list_from room (walk cs m))
    from-unmarked zero cs a none = unfold list_from in ends-here cs 0 a (λ u n h. inl refl)
    from-unmarked (suc room) cs a none = one_more room cs a none (from-unmarked room (strike ∷ all_turns ∷ cs))

    pub in_place : (room : ℕ) (cs : List Call) → admitted (walk cs m) ≡ true → InPlace p m cs room (list room (walk cs m))
    unfolding list list_from room_at is_solved
    in_place room cs a = by (walk cs m).status refl
      where
        by : (x : Status) → (walk cs m).status ≡ x → InPlace p m cs room (list_from (room_at x room) (walk cs m))
        by undecided e = from-unmarked room cs a (mark cs ∙ ap is_solved e)
        by infeasible e = ends-here cs room a (λ u n h. impossible (let f = run_none (walk cs m) e in cc))
        by solved e = ends-here cs room a (λ u n h. impossible (let f = sym n ∙ mark cs ∙ ap is_solved e in cc))

-- ---- from a fresh opening
pub record Listed (p : Problem) (m : Search) (cs : List Call) : Type 0 where
  pub calls : (room : ℕ) → admitted (walk cs m) ≡ true → InPlace p m cs room (list room (walk cs m))
  pub variables : (walk cs m).core.variables ≡ variables p
  pub ends : ¬ ((run (walk cs m)).verdict ≡ go_on)
  pub whole : valid (walk cs m) ≡ true

variables-of : (p : Problem) (Left : Point → Type 0) (k : ℕ) (s : Search) → Reached p Left k s → s.core.variables ≡ variables p
variables-of p Left k s (still o) = o.sound.variables
variables-of p Left k s (found d) = d.at.sound.variables
variables-of p Left k s (over o) = o.variables

pub listed : (p : Problem) → Acceptable p → (cs : List Call) → Listed p (open_problem p) cs
listed p a cs =
    let m = open_problem p in
    let z = sized_of p a in
    let st = standing p z.few-variables m (fresh p z (fits-of p a)) in
    let w = st cs in
    record {
      calls = λ room. in_place p m (listings-of-problems.lists p a) (λ ds. (st ds).mark) (λ ds. true_of _ (st ds).valid.tests) room cs;
      variables = variables-of p (λ x. In x w.left) (length w.gone) (walk cs m) w.reached;
      ends = run_ends (walk cs m) w.valid;
      whole = true_of _ w.valid.tests;
    }
