-- Demand 3, of the calls.
use Prim.Native.Nat.{ℕ, zero, suc, ◌+◌, ◌-◌, ◌*◌, ◌≤◌, ◌<◌}
use native.Mathlib.Omega.{arith}
use mathlib.Core.List.{List, [], ◌∷◌, ◌++◌}
use mathlib.Core.Logic.{◌⊎◌, inl, inr, ⊎_elim}
use mathlib.Core.Path.{◌≡◌, refl, sym, ap, subst, ◌∙◌}
use lib.ListN.{length, take}
use Rattle.std.specs.Prelude.{Result, Ok, Err}
use Rattle.model_problems.specs.Problem.{Problem, ok}
use Rattle.model_walk.specs.Search as model
use Rattle.model_walk.specs.Search.{open_problem}
use Rattle.model_walk.specs.Move.{slack}
use Rattle.model_walk.specs.Propagations.{bounds_set}
use Rattle.model_problems.specs.Points.{Point, points, First}
use Rattle.model_walk.specs.Step.{Verdict as ModelVerdict, out_of_budget, solution, step, run}
use Rattle.model_acceptance.specs.Acceptable.{Acceptable}
use Rattle.model_claims.specs.Demand.{state_after, journal, verdict_with, Decides, Agree, SameSolutions, Steps}
use Rattle.problem.specs.declared.Refusal.{Refusal}
use Rattle.problem.specs.Answer.{seen_by}
use Rattle.problem.proofs.Numbers.{taken-by}
use Rattle.problem.specs.View.{problem_of}
use Rattle.lists.proofs.Bools.{lt-or-le}
use Rattle.state.specs.View.{view}
use Rattle.state.specs.declared.Search.{Search}
use Rattle.validity.proofs.Steps.{impossible}
use Rattle.soundness.proofs.Demand.{demand-of-problems, demand-3}
use Rattle.shown.specs.Opening.{seen_opened}
use Rattle.shown.specs.Seen.{padded, case_of}
use Rattle.answers.specs.declared.Ran.{Ran}
use Rattle.answers.specs.declared.Verdict.TheVariants as verdict
use Rattle.calls.specs.Calls.{Source, file, value, problem_from, Fine, OpensFrom, Call, ran, Makes, told, ListFrom, state_in, journal_of, NoRun, until_run, steps_in, steps_of, SameAnswer, CallAfter, Decided, CallsFrom, OpeningFrom, RunFrom, UnderBudget, EnoughBudget, CallsHoldFrom, WithEnoughFrom}
use Rattle.calls.proofs.Shown.{case-plain}
use Rattle.calls.proofs.Lists.{journal-end, set-end, journal-prefix, CallTells, call-tells, Follows, follows, one_more, steps-more, no_run}

-- ---- an opening that is not refused
pub record Fresh (o : Result Search Refusal) (m : model.Search) : Type 0 where
  pub state : Search
  pub done : o ≡ Ok state
  pub start : view state ≡ m

pub opened-as : (o : Result Search Refusal) (m : model.Search) → seen_opened o ≡ ok m → Fresh o m
unfolding seen_opened
opened-as o m e = let x = taken-by view o m e in record { state = x.0; done = x.1; start = x.2 }

-- the problem that a search starts from is acceptable
pub fine-source : (s : Source) → Fine s → Acceptable (problem_from s)
unfolding problem_from
fine-source (file f) a = demand-3.acceptable f a
fine-source (value p) a = a

-- and both calls open it
opens-source : (s : Source) → Fine s → (o : Result Search Refusal) → OpensFrom s o → seen_opened o ≡ ok (open_problem (problem_from s))
unfolding problem_from
opens-source (file f) a o e = e ∙ demand-3.opens f a
opens-source (value p) a o e = e ∙ demand-of-problems.opens (problem_of p) a

pub fresh : (s : Source) → Fine s → (o : Result Search Refusal) → OpensFrom s o → Fresh o (open_problem (problem_from s))
fresh s a o e = opened-as o (open_problem (problem_from s)) (opens-source s a o e)

pub start-of : (s : Source) → Fine s → (x : Search) → OpensFrom s (Ok x) → view x ≡ open_problem (problem_from s)
unfolding seen_opened seen_by
start-of s a x e = let h = opens-source s a (Ok x) e in cc

-- ---- 'none' exactly when there is no solution, else the first
decided : (p : Problem) (q : Ran) (v : ModelVerdict) → q.verdict ≡ case_of v → Decides p v → Decided p q
decided p q v e d =
    record {
      none-iff = ((λ h. d.none-iff.0 (case-plain v verdict.NoSolution tt (sym e ∙ h))), (λ h. e ∙ ap case_of (d.none-iff.1 h) ∙ (unfold case_of in refl)));
      else-first = λ n. first (d.else-first (λ h. n (e ∙ ap case_of h ∙ (unfold case_of in refl))));
    }
  where
    first : ((x : Point) × (v ≡ solution x) × First p x) → (x : Point) × (q.verdict ≡ verdict.Solution (padded x)) × First p x
    first (x, h, l) = (x, e ∙ ap case_of h ∙ (unfold case_of in refl), l)

-- ---- the calls and the run from one opening
module _ (s : Source) (a : Fine s) (o : Search) (h : OpensFrom s (Ok o)) (w : Result Ran Refusal) (g : Makes o (ran w)) where
  abbrev p : Problem
  p = problem_from s

  abbrev m : model.Search
  m = open_problem (problem_from s)

  abbrev t : Steps (problem_from s) (open_problem (problem_from s))
  t = demand-of-problems.steps (problem_from s) (fine-source s a)

  start : view o ≡ state_after 0 (open_problem (problem_from s))
  unfolding state_after
  start = start-of s a o h

  -- the run's answer is that of the model's run, which gives the first verdict
  first : (run m).verdict ≡ (step (state_after t.last m)).verdict
  unfolding state_after
  first = (t.ran 0).0

  pub run_call_lem : CallTells p m t 0 (ran w)
  run_call_lem = call-tells p m t 0 o (ran w) start g

  abbrev q : Ran
  q = run_call_lem.answer

  pub taken : w ≡ Ok q
  unfolding told
  taken = run_call_lem.is

  pub run_is : q.verdict ≡ case_of (run (open_problem (problem_from s))).verdict
  unfolding steps_in
  run_is =
      let z : 0 + t.last ≡ t.last = omega arith in
      run_call_lem.turn t.last refl ∙ ap case_of (ap (λ (i : ℕ). (step (state_after i m)).verdict) z ∙ sym first)

  run-count : q.count ≡ length (journal (suc t.last) m)
  unfolding steps_in
  run-count = let z : 0 + suc t.last ≡ suc t.last = omega arith in run_call_lem.count ∙ ap (λ (i : ℕ). length (journal i m)) z

  run-set : q.propagations ≡ bounds_set (suc t.last) m
  unfolding steps_in
  run-set = let z : 0 + suc t.last ≡ suc t.last = omega arith in run_call_lem.propagations ∙ ap (λ (i : ℕ). bounds_set i m) z

  -- the calls cs, and c after them
  module _ (cs : List Call) (c : Call) (l : ListFrom o cs) (e : Makes (state_in o cs) c) where
    abbrev k : ℕ
    k = steps_of t.last cs

    abbrev n : ℕ
    n = steps_in t.last c

    x : CallTells p m t (steps_of t.last cs) c
    x = call-tells p m t (steps_of t.last cs) (state_in o cs) c (let z : 0 + steps_of t.last cs ≡ steps_of t.last cs = omega arith in rw z at (follows p m t cs 0 o start l).state) e

    all : Follows p m t 0 o (cs ++ (c ∷ []))
    all = follows p m t (cs ++ (c ∷ [])) 0 o start (one_more cs o c l e)

    -- without a run these are the blocks of as many turns
    blocks : NoRun (cs ++ (c ∷ [])) → journal_of (cs ++ (c ∷ [])) ≡ journal (k + n) m
    unfolding state_after
    blocks h = all.silent ∙ all.heard ∙ ap (λ (i : ℕ). journal i m) (ap (steps_of t.last) (no_run (cs ++ (c ∷ [])) h) ∙ steps-more t.last cs c)

    abbrev u : Ran
    u = x.answer

    answered : (i : ℕ) → n ≡ suc i → t.last ≤ k + i → SameAnswer u q
    answered i b w = x.turn i b ∙ ap case_of ((t.later (k + i) w).0 ∙ sym first) ∙ sym run_is

    goes-on : (i : ℕ) → n ≡ i → k + n ≤ t.last → u.verdict ≡ verdict.GoOn
    goes-on zero b w = x.idle b
    goes-on (suc i) b w = x.turn i b ∙ ap case_of (t.before (k + i) (omega arith)) ∙ (unfold case_of in refl)

    state-set : u.state.propagations ≡ bounds_set (k + n) m
    unfolding view
    state-set = ap (λ (y : model.Search). y.propagations) x.state ∙ t.tallied (k + n)

    pub call : CallAfter (problem_from s) q t.last (journal (suc t.last) m) cs c
    unfolding state_after
    call =
        let more = steps-more t.last cs c in
        record {
          answer = u;
          taken = x.is;
          bounded = rw x.count (t.bounded (k + n));
          counted = λ h. x.count ∙ ap length (sym (blocks h));
          blocks_so_far = λ h. blocks h ∙ sym (journal-prefix p m t (k + n)) ∙ ap (λ (i : ℕ). take i (journal (suc t.last) m)) (sym x.count);
          tallied = x.propagations ∙ ap (λ (i : ℕ). bounds_set i m) (sym more);
          carried = state-set ∙ sym x.propagations;
          creeping = rw (x.count, x.propagations) (subst (λ (i : ℕ). bounds_set (k + n) m ≤ suc i * slack p.domain) (t.carried (k + n)) (omega (arith, t.creeping (k + n), t.tallied (k + n))));
          silent = all.silent;
          cuts = λ y z. rw (all.silent, all.heard) (t.cuts (steps_of t.last (until_run (cs ++ (c ∷ [])))) y z);
          before = λ b. goes-on n refl (omega (arith, more));
          later = λ b w. (
            answered (n - 1) (omega arith) (omega (arith, more)),
            (x.count ∙ (same_end (omega (arith, more))).0 ∙ sym run-count, x.propagations ∙ (same_end (omega (arith, more))).1 ∙ sym run-set),
          );
          idle = x.idle;
        }
      where
        same_end : t.last < k + n → (length (journal (k + n) m) ≡ length (journal (suc t.last) m)) × (bounds_set (k + n) m ≡ bounds_set (suc t.last) m)
        same_end b =
            let z : suc (k + n - 1) ≡ k + n = omega arith in
            subst (λ (i : ℕ). (length (journal i m) ≡ length (journal (suc t.last) m)) × (bounds_set i m ≡ bounds_set (suc t.last) m)) z (journal-end p m t (k + n - 1) (omega arith), set-end p m t (k + n - 1) (omega arith))

  -- the problem's budget, and one of as many as the points
  or-spent : ((verdict_with p p.budget ≡ verdict_with p (points p)) ⊎ (verdict_with p p.budget ≡ out_of_budget)) → Decided p q ⊎ (q.verdict ≡ verdict.OutOfBudget)
  or-spent (inl e) = inl (decided p q (run m).verdict run_is (subst (Decides p) (sym (t.own ∙ e)) (t.decides-with (points p) (omega arith))))
  or-spent (inr e) = inr (run_is ∙ ap case_of (t.own ∙ e) ∙ (unfold case_of in refl))

  enough : points p ≤ p.budget → Decided p q
  enough e = decided p q (run m).verdict run_is (t.decides e)

  pub calls-from : CallsFrom (problem_from s) o w
  calls-from =
      record {
        answer = q;
        taken = taken;
        last = t.last;
        blocks = journal (suc t.last) m;
        whole = sym run-count;
        call = call;
        ended = λ e. t.reached (sym first ∙ case-plain (run m).verdict verdict.GoOn tt (sym run_is ∙ e));
        decides = enough;
        or-spent = ⊎_elim (λ (e : points p < p.budget). inl (enough (omega arith))) (λ (e : p.budget ≤ points p). or-spent (t.smaller p.budget (points p) e)) (lt-or-le (points p) p.budget);
      }

opening-holds : (s : Source) → Fine s → (o : Result Search Refusal) → OpensFrom s o → OpeningFrom (problem_from s) o
opening-holds s a o h =
    let x = fresh s a o h in
    let k = subst (OpensFrom s) x.done h in
    record { state = x.state; accepted = x.done; calls = λ q g. calls-from s a x.state k q g }

-- ---- two openings
run_of : (s : Source) (q : Ran) → RunFrom s q → q.verdict ≡ case_of (run (open_problem (problem_from s))).verdict
run_of s q r =
    let e : q ≡ (run_call_lem s r.fine r.opened r.opens (Ok q) r.runs).answer = let h = taken s r.fine r.opened r.opens (Ok q) r.runs in cc in
    ap (λ (u : Ran). u.verdict) e ∙ run_is s r.fine r.opened r.opens (Ok q) r.runs

-- the verdict of an opening's run is that of its problem under its budget
abbrev verdict_of : Source → ModelVerdict
verdict_of s = verdict_with (problem_from s) (problem_from s).budget

own : (s : Source) → Fine s → (run (open_problem (problem_from s))).verdict ≡ verdict_of s
own s a = (demand-of-problems.steps (problem_from s) (fine-source s a)).own

same_answer : (s t : Source) (q u : Ran) → RunFrom s q → RunFrom t u → verdict_of s ≡ verdict_of t → SameAnswer q u
same_answer s t q u r w e =
    run_of s q r ∙ ap case_of (own s r.fine ∙ e ∙ sym (own t w.fine)) ∙ sym (run_of t u w)

spent : (s : Source) (q : Ran) → RunFrom s q → verdict_of s ≡ out_of_budget → q.verdict ≡ verdict.OutOfBudget
spent s q r e = run_of s q r ∙ ap case_of (own s r.fine ∙ e) ∙ (unfold case_of in refl)

-- t's problem is s's under t's budget
under-budget : (s t : Source) {u : Ran} → RunFrom t u → UnderBudget s t → verdict_of t ≡ verdict_with (problem_from s) (problem_from t).budget
unfolding verdict_with
under-budget s t w b = sym (own t w.fine) ∙ ap (λ (p : Problem). (run (open_problem p)).verdict) b

-- the verdicts of one problem under two budgets
budgets : (s : Source) → Fine s → (b c : ℕ) → b ≤ c → (verdict_with (problem_from s) b ≡ verdict_with (problem_from s) c) ⊎ (verdict_with (problem_from s) b ≡ out_of_budget)
budgets s a = (demand-of-problems.steps (problem_from s) (fine-source s a)).smaller

smaller-holds : (s t : Source) (q u : Ran) → RunFrom s q → RunFrom t u → UnderBudget s t → (problem_from t).budget ≤ (problem_from s).budget → SameAnswer u q ⊎ (u.verdict ≡ verdict.OutOfBudget)
smaller-holds s t q u r w b n = by (budgets s r.fine (problem_from t).budget (problem_from s).budget n)
  where
    by : ((verdict_with (problem_from s) (problem_from t).budget ≡ verdict_of s) ⊎ (verdict_with (problem_from s) (problem_from t).budget ≡ out_of_budget)) → SameAnswer u q ⊎ (u.verdict ≡ verdict.OutOfBudget)
    by (inl e) = inl (same_answer t s u q w r (under-budget s t w b ∙ e))
    by (inr e) = inr (spent t u w (under-budget s t w b ∙ e))

same-holds : (s t : Source) (q u : Ran) → RunFrom s q → RunFrom t u → Agree (verdict_of s) (verdict_of t) → SameAnswer q u ⊎ ((q.verdict ≡ verdict.OutOfBudget) ⊎ (u.verdict ≡ verdict.OutOfBudget))
same-holds s t q u r w (inl e) = inl (same_answer s t q u r w e)
same-holds s t q u r w (inr (inl e)) = inr (inl (spent s q r e))
same-holds s t q u r w (inr (inr e)) = inr (inr (spent t u w e))

pub calls-hold-from : CallsHoldFrom
calls-hold-from =
    record {
      opening = opening-holds;
      smaller = smaller-holds;
      same = λ s t q u r w e.
          same-holds s t q u r w
          (demand-of-problems.same (problem_from s) (problem_from t) (fine-source s r.fine) (fine-source t w.fine) e (problem_from s).budget (problem_from t).budget);
    }

-- ---- with budgets of at least the points neither answer is 'spent'
not-spent : (s : Source) (q : Ran) → RunFrom s q → EnoughBudget s → ¬ (q.verdict ≡ verdict.OutOfBudget)
not-spent s q r n e =
    let d = decided (problem_from s) q _ (run_of s q r) ((demand-of-problems.steps (problem_from s) (fine-source s r.fine)).decides n) in
    let z = (d.else-first (λ h. impossible (cc))).1 in
    impossible (cc)

smaller-enough : (s t : Source) (q u : Ran) → RunFrom s q → RunFrom t u → UnderBudget s t → EnoughBudget s → SameAnswer u q ⊎ (u.verdict ≡ verdict.OutOfBudget)
smaller-enough s t q u r w b n =
    ⊎_elim (λ (l : (problem_from s).budget < (problem_from t).budget). larger (budgets s r.fine (problem_from s).budget (problem_from t).budget (omega arith)))
    (λ (l : (problem_from t).budget ≤ (problem_from s).budget). smaller-holds s t q u r w b l) (lt-or-le (problem_from s).budget (problem_from t).budget)
  where
    larger : ((verdict_of s ≡ verdict_with (problem_from s) (problem_from t).budget) ⊎ (verdict_of s ≡ out_of_budget)) → SameAnswer u q ⊎ (u.verdict ≡ verdict.OutOfBudget)
    larger (inl e) = inl (same_answer t s u q w r (under-budget s t w b ∙ sym e))
    larger (inr e) = absurd (not-spent s q r n (spent s q r e))

same-enough : (s t : Source) (q u : Ran) → RunFrom s q → RunFrom t u → SameSolutions (problem_from s) (problem_from t) → EnoughBudget s → EnoughBudget t → SameAnswer q u
same-enough s t q u r w e n k = by (calls-hold-from.same s t q u r w e)
  where
    by : SameAnswer q u ⊎ ((q.verdict ≡ verdict.OutOfBudget) ⊎ (u.verdict ≡ verdict.OutOfBudget)) → SameAnswer q u
    by (inl x) = x
    by (inr (inl x)) = absurd (not-spent s q r n x)
    by (inr (inr x)) = absurd (not-spent t u w k x)

pub with-enough-from : WithEnoughFrom
with-enough-from = record { smaller = smaller-enough; same = same-enough }
