-- Demand 3, of every list of turns from a fresh opening of an acceptable problem.
use Prim.Native.Nat.{ℕ, suc, ◌+◌, ◌-◌, ◌≤◌, ◌<◌}
use native.Mathlib.Omega.{arith}
use mathlib.Core.List.{List, [], ◌∷◌}
use mathlib.Core.Logic.{◌⊎◌, inl, inr, ⊎_elim}
use mathlib.Core.Path.{◌≡◌, refl, sym, ap, ◌∙◌}
use lib.Dec.{T}
use lib.ListN.{length, length-map}
use Rattle.model_problems.specs.Constraint.{Constraint, rounded}
use Rattle.model_problems.specs.Problem.{Problem, variables, ok, result_of}
use Rattle.model_files.specs.File.{problem_in, read_file}
use Rattle.model_walk.specs.Search.{Search, core_of, open_problem, opened_by, open_file}
use Rattle.model_walk.specs.Validity.{status_valid, admitted}
use Rattle.model_problems.specs.Points.{Solution, all_points, points}
use Rattle.model_walk.specs.Step.{go_on, out_of_budget, Outcome, step, run_for, without_block, run}
use Rattle.model_walk.specs.Propagations.{bounds_set}
use Rattle.model_acceptance.specs.Acceptable.{Shaped, Acceptable}
use Rattle.model_claims.specs.Demand.{state_after, answer_at, journal, with_budget, verdict_with, Decides, Steps, DemandOfProblems, Accepted, Demand3}
use Rattle.acceptance.proofs.Acceptance.{tested, sizes-of, opens-given, file-acceptable}
use Rattle.format.proofs.AcceptedShape as Small
use Rattle.lists.proofs.Bools.{true_of, T_of, lt-or-le}
use Rattle.soundness.proofs.Sizes.{points-every, points-once}
use Rattle.validity.proofs.States.{Every, fits-shaped, fits-valid, sizes-fit}
use Rattle.validity.specs.Valid.{Valid}
use Rattle.soundness.proofs.Opened.{meets-inequalities}
use Rattle.soundness.proofs.Runs.{ProblemFits, opened-fits, opened-open}
use Rattle.soundness.proofs.Verdicts.{decides-with, same-verdict}
use Rattle.soundness.proofs.Budgets.{smaller-budget}
use Rattle.soundness.proofs.StepLists.{after_turns, turn_blocks, state-next, valid-after, step-tells, Reached, still, reached-after, reached-creeps, list-conflicts, list_counted, list-few, list-cuts, SaysSame, run-ends-list}
use Rattle.soundness.proofs.Tallies.{turns-set, few-set, set-admitted}
use Rattle.soundness.proofs.Unrefused.{call-taken, state-taken, journal-taken, stays, together-after, ran-after}

-- ---- an acceptable problem
every_of : (n : ℕ) (ks : List Constraint) → Shaped n ks → Every (λ (k : Constraint). length k.coefficients ≡ n) ks
every_of n [] t = tt
every_of n (k ∷ ks) t = (t.0, every_of n ks t.1)

pub fits-of : (p : Problem) → Acceptable p → ProblemFits p
fits-of p a =
    let w = tested p a.fine in
    record {
      domain = T_of w.bounded;
      thresholds = T_of w.threshold-range;
      constraints = T_of w.coefficient-range;
      divisors = T_of w.divisor_range;
      sizes = every_of (variables p) p.constraints a.shaped;
    }

pub sized_of : (p : Problem) → Acceptable p → Small.Sizes p
sized_of p a = sizes-of p a.fine

module _ (p : Problem) (z : Small.Sizes p) (f : ProblemFits p) where
  pub opened-valid : Valid (open_problem p)
  unfolding open_problem core_of variables
  opened-valid =
      let c = opened-fits p f in
      record {
        shape = fits-shaped (core_of p) c;
        tests =
            fits-valid (open_problem p) c
            (record {
              some = z.some;
              few = z.few-variables;
              inputs = omega (arith, z.few-constraints, length-map p.constraints rounded);
              budget = z.small-budget;
              conflicts = omega arith;
              made = omega arith;
            }) (unfold status_valid in tt);
      }

  pub opened-conflicts : (open_problem p).conflicts ≡ 0
  unfolding open_problem
  opened-conflicts = refl

  opened-fuel : (open_problem p).conflicts + ((open_problem p).budget - (open_problem p).conflicts) ≡ (open_problem p).budget
  unfolding open_problem
  opened-fuel = omega arith

  own-budget : open_problem p ≡ open_problem (with_budget p p.budget)
  unfolding with_budget
  own-budget = refl

  -- no turn of a list is refused
  opened-fine : (s : Search) → Valid s → Reached p (Solution p) 0 s → T (admitted s)
  opened-fine s v r = let q = sizes-fit s v.tests in set-admitted p (Solution p) 0 s v r (few-set p z f (s.conflicts + 0) (omega (arith, q.conflicts, q.budget)))

  start : Reached p (Solution p) 0 (open_problem p)
  start = still (opened-open p f)

  state-is : (k : ℕ) → state_after k (open_problem p) ≡ after_turns k (open_problem p)
  state-is k = state-taken p (Solution p) 0 opened-fine k (open_problem p) opened-valid start

  journal-is : (k : ℕ) → journal k (open_problem p) ≡ turn_blocks k (open_problem p)
  journal-is k = journal-taken p (Solution p) 0 opened-fine k (open_problem p) opened-valid start

  pub opened-propagations : (open_problem p).propagations ≡ 0
  unfolding open_problem
  opened-propagations = refl

  set_is : (k : ℕ) → (after_turns k (open_problem p)).propagations ≡ bounds_set k (open_problem p)
  set_is k = omega (arith, turns-set k (open_problem p) opened-valid, opened-propagations)

  steps_of : Steps p (open_problem p)
  unfolding run without_block answer_at
  steps_of =
      let s = open_problem p in
      let v = opened-valid in
      let e = run-ends-list p (Solution p) 0 (s.budget - s.conflicts) s (opened-open p f) opened-fuel in
      let ran : run_for (s.budget - s.conflicts) s ≡ step (state_after e.last s) = rw (state-is e.last) e.ran in
      let before : (k : ℕ) → k < e.last → (step (state_after k s)).verdict ≡ go_on = λ k h. rw (state-is k) (e.before k h) in
      let reached : ¬ ((step (state_after e.last s)).verdict ≡ go_on) = λ h. e.reached (ap (λ (x : Outcome). x.verdict) ran ∙ h) in
      let later : (k : ℕ) → e.last ≤ k → SaysSame (step (state_after k s)) (step (state_after e.last s)) = λ k h. rw (← ran, state-is k) (e.later k h) in
      let own : (run s).verdict ≡ verdict_with p p.budget = unfold verdict_with in ap (λ (x : Search). (run x).verdict) own-budget in
      let admits : (k : ℕ) → T (admitted (state_after k s)) = λ k. rw (state-is k) (opened-fine (after_turns k s) (valid-after k s v) (reached-after p (Solution p) 0 k s start)) in
      record {
        listed = unfold all_points in record { every = points-every p.thresholds p.domain; once = points-once p.thresholds p.domain };
        accepted = λ k. true_of _ (admits k);
        taken = λ k. call-taken (state_after k s) (admits k);
        counted = λ k. rw (state-is k, journal-is (suc k)) (omega (arith, list_counted p (Solution p) 0 k s v start, opened-conflicts));
        carried = λ k. rw (state-is k, journal-is k) (omega (arith, list-conflicts p (Solution p) 0 k s start, opened-conflicts));
        bounded = λ k. rw (journal-is k) (omega (arith, list-few p (Solution p) 0 k s start));
        propagated = λ k. rw (state-is k) ((step-tells (after_turns k s) (valid-after k s v)).propagations ∙ ap (λ (x : Search). x.propagations) (sym (state-next k s)) ∙ set_is (suc k));
        tallied = λ k. rw (state-is k) (set_is k);
        creeping = λ k. rw (state-is k) (omega (arith, reached-creeps p (Solution p) 0 (after_turns k s) (reached-after p (Solution p) 0 k s start)));
        cuts = λ k x q. rw (journal-is k) (list-cuts p (Solution p) 0 k s z.few-variables start x (meets-inequalities x p.constraints q.meets));
        last = e.last;
        before = before;
        reached = reached;
        later = later;
        stays = stays p (Solution p) 0 opened-fine s v start e.last before reached later;
        together = together-after p (Solution p) 0 opened-fine s v start e.last before reached later;
        ran = ran-after p (Solution p) 0 opened-fine s v start e.last before reached later;
        decides = λ h. rw own (decides-with p p.budget f h);
        decides-with = λ b h. decides-with p b f h;
        smaller = λ b c h. smaller-budget b c h p;
        own = own;
      }

-- under every budget: a right verdict decides, or is 'spent'
right_of : (p : Problem) (b : ℕ) → ProblemFits p → Decides p (verdict_with p b) ⊎ ((verdict_with p b ≡ out_of_budget) × (b < points p))
right_of p b f =
    ⊎_elim (λ (h : b < points p). by h (smaller-budget b (points p) (omega arith) p)) (λ (h : points p ≤ b). inl (decides-with p b f h)) (lt-or-le b (points p))
  where
    by : b < points p → ((verdict_with p b ≡ verdict_with p (points p)) ⊎ (verdict_with p b ≡ out_of_budget)) → Decides p (verdict_with p b) ⊎ ((verdict_with p b ≡ out_of_budget) × (b < points p))
    by h (inl e) = inl (rw e (decides-with p (points p) f (omega arith)))
    by h (inr e) = inr (e, h)

pub demand-of-problems : DemandOfProblems
demand-of-problems =
    record {
      opens = λ p a. opens-given p a.fine;
      steps = λ p a. steps_of p (sized_of p a) (fits-of p a);
      right = λ p a b. right_of p b (fits-of p a);
      same = λ p q a b e c d. same-verdict p q c d (fits-of p a) (fits-of q b) e;
    }

-- ---- accepted files
pub acceptable-of : (f : List ℕ) → Accepted f → Acceptable (problem_in f)
acceptable-of f a = file-acceptable f a.fine

opens_of : (f : List ℕ) → Accepted f → open_file f ≡ ok (open_problem (problem_in f))
unfolding open_file read_file
opens_of f a = rw a.fine (unfold result_of opened_by in refl)

pub demand-3 : Demand3
demand-3 =
    let d = demand-of-problems in
    record {
      acceptable = acceptable-of;
      opens = opens_of;
      steps = λ f a. d.steps (problem_in f) (acceptable-of f a);
      same = λ f g a b e. d.same (problem_in f) (problem_in g) (acceptable-of f a) (acceptable-of g b) e;
    }
