-- What an answer of the calls tells of the model's.
use Prim.Native.Nat.{ℕ}
use mathlib.Core.List.{List}
use mathlib.Core.Option as maybe
use mathlib.Core.Path.{◌≡◌, refl, sym, ap, subst, ◌∙◌}
use lib.IntN.{ℤ}
use lib.ListN.{length}
use Rattle.std.specs.Prelude.{Result, Ok, Err, Option, Some, None, option_to_list}
use Rattle.model_problems.specs.Points.{Point}
use Rattle.model_problems.specs.Problem.{ok, error}
use Rattle.model_walk.specs.Search as model
use Rattle.model_walk.specs.Step.{Verdict as ModelVerdict, go_on, no_solution, out_of_budget, solution, Outcome, block_in as blocks_in, step_call, run_call}
use Rattle.model_walk.specs.Trace.{Trace, written, trace_call}
use Rattle.problem.specs.declared.Refusal.{Refusal}
use Rattle.problem.specs.declared.Refusal.TheVariants.{InvalidSearch}
use Rattle.problem.specs.Answer.{number, seen_by, shown_by}
use Rattle.problem.proofs.Numbers.{taken-by, refused-by}
use Rattle.state.specs.View.{view}
use Rattle.state.specs.declared.Search.{Search}
use Rattle.validity.proofs.Steps.{impossible}
use Rattle.shown.specs.Seen.{padded, case_of, Seen, seen, shown, seen_ran, run_seen, SeenTurn, block_of, seen_turn, shown_turn, seen_stepped, step_seen, SeenTrace, SeenTraced, seen_trace, shown_trace, seen_traced, trace_seen}
use Rattle.shown.specs.declared.Stepped.{Stepped}
use Rattle.answers.specs.declared.Ran.{Ran}
use Rattle.answers.specs.declared.Traced.{Traced}
use Rattle.answers.specs.declared.Verdict.{Verdict}
use Rattle.answers.specs.declared.Verdict.TheVariants.{GoOn, NoSolution, OutOfBudget, Solution}
use Rattle.calls.specs.Calls.{Makes, stepped, traced, ran}

-- ---- the case of a verdict: one without values is known by it
abbrev Plain : Verdict → Type 0
Plain GoOn = Unit {0}
Plain NoSolution = Unit {0}
Plain OutOfBudget = Unit {0}
Plain (Solution values) = ⊥

abbrev pub plain_of : Verdict → ModelVerdict
plain_of GoOn = go_on
plain_of NoSolution = no_solution
plain_of OutOfBudget = out_of_budget
plain_of (Solution values) = go_on

pub case-plain : (v : ModelVerdict) (k : Verdict) → Plain k → case_of v ≡ k → v ≡ plain_of k
unfolding case_of
case-plain go_on k h e = ap plain_of e
case-plain no_solution k h e = ap plain_of e
case-plain out_of_budget k h e = ap plain_of e
case-plain (solution x) k h e = absurd (subst Plain (sym e) h)

-- and a solution by its values
pub case-solution : (v : ModelVerdict) (values : List ℤ) → case_of v ≡ Solution values → (x : Point) × (v ≡ solution x) × (values ≡ padded x)
unfolding case_of
case-solution go_on values e = impossible (cc)
case-solution no_solution values e = impossible (cc)
case-solution out_of_budget values e = impossible (cc)
case-solution (solution x) values e = (x, refl, cc)

-- ---- a result that is refused with 9
pub invalid-by : {A B : Type 0} (f : A → B) (r : Result A Refusal) → seen_by f r ≡ error 9 → r ≡ Err InvalidSearch
unfolding number
invalid-by f r h = refused-by f r InvalidSearch h

-- ---- what a run's answer tells
pub record Shows (r : Ran) (x : Seen) : Type 0 where
  pub verdict : r.verdict ≡ x.whole
  pub count : r.count ≡ x.count
  pub propagations : r.propagations ≡ x.propagations
  pub state : view r.state ≡ x.state

pub shows : (r : Ran) (x : Seen) → seen r ≡ x → Shows r x
unfolding seen
shows r x e =
    record {
      verdict = ap (λ (y : Seen). y.whole) e;
      count = ap (λ (y : Seen). y.count) e;
      propagations = ap (λ (y : Seen). y.propagations) e;
      state = ap (λ (y : Seen). y.state) e;
    }

abbrev pub Tells : Ran → Outcome → Type 0
Tells r o = Shows r (record { verdict = o.verdict; whole = case_of o.verdict; count = o.count; propagations = o.propagations; state = o.state })

pub tells : (r : Ran) (o : Outcome) → seen r ≡ shown o → Tells r o
unfolding shown
tells r o e = shows r _ e

-- ---- a run
pub record RunTells (q : Result Ran Refusal) (o : Outcome) : Type 0 where
  pub answer : Ran
  pub is : q ≡ Ok answer
  pub run : Tells answer o

pub run-tells : (s : Search) (q : Result Ran Refusal) (m : model.Search) (o : Outcome) → Makes s (ran q) → view s ≡ m → run_call m ≡ ok o → RunTells q o
unfolding seen_ran run_seen
run-tells s q m o e v c =
    let x = taken-by seen q (shown o) (e ∙ rw (v, c) (unfold shown_by in refl)) in
    record { answer = x.0; is = x.1; run = tells x.0 o x.2 }

-- ---- a trace
pub record TraceTells (r : Result Traced Refusal) (new : List ℕ) (t : Trace) (bytes : List ℕ) : Type 0 where
  pub answer : Traced
  pub is : r ≡ Ok answer
  pub run : Shows answer.run (record { verdict = t.verdict; whole = case_of t.verdict; count = t.count; propagations = t.propagations; state = t.state })
  pub blocks : answer.blocks ≡ length t.blocks
  pub buffer : new ≡ bytes

pub trace-tells : (s : Search) (r : Result Traced Refusal) (old new : List ℕ) (m : model.Search) (t : Trace) → Makes s (traced old new r) → view s ≡ m → trace_call m old ≡ written t old →
    TraceTells r new t (written t old).buffer
unfolding seen_traced trace_seen seen_trace shown_trace
trace-tells s r old new m t e v c =
    let f : seen_traced r new ≡ record { answer = ok (shown_trace t); buffer = (written t old).buffer } = e ∙ rw (v, c) (unfold written shown_by in refl) in
    let x = taken-by seen_trace r (shown_trace t) (ap (λ (y : SeenTraced). y.answer) f) in
    record {
      answer = x.0;
      is = x.1;
      run = shows x.0.run _ (ap (λ (y : SeenTrace). y.run) x.2);
      blocks = ap (λ (y : SeenTrace). y.blocks) x.2;
      buffer = ap (λ (y : SeenTraced). y.buffer) f;
    }

-- ---- a turn
given-block : (b : Option (List ℕ)) (x : maybe.Option (List ℕ)) → block_of b ≡ x → option_to_list b ≡ blocks_in x
unfolding blocks_in block_of
given-block None x e = rw (← e) refl
given-block (Some y) x e = rw (← e) refl

pub record StepTells (r : Result Stepped Refusal) (o : Outcome) : Type 0 where
  pub answer : Stepped
  pub is : r ≡ Ok answer
  pub run : Tells answer.run o
  pub blocks : option_to_list answer.block ≡ blocks_in o.block

pub step-tells : (s : Search) (r : Result Stepped Refusal) (m : model.Search) (o : Outcome) → Makes s (stepped r) → view s ≡ m → step_call m ≡ ok o → StepTells r o
unfolding seen_stepped step_seen seen_turn shown_turn
step-tells s r m o e v c =
    let x = taken-by seen_turn r (shown_turn o) (e ∙ rw (v, c) (unfold shown_by in refl)) in
    record {
      answer = x.0;
      is = x.1;
      run = tells x.0.run o (ap (λ (y : SeenTurn). y.run) x.2);
      blocks = given-block x.0.block o.block (ap (λ (y : SeenTurn). y.block) x.2);
    }
