-- N4, of one call: what it says is the model's reply, and what a list shows of it.
use Prim.Native.Nat.{ℕ, zero, suc, ◌+◌, ◌/◌}
use native.Mathlib.Omega.{arith}
use mathlib.Core.Bool.{Bool, true, false}
use mathlib.Core.List.{List, [], ◌++◌, map, map-append}
use mathlib.Core.Logic.{inl, inr}
use mathlib.Core.Path.{◌≡◌, refl, sym, ap, subst, ◌∙◌}
use lib.IntN.{ℤ}
use lib.ListN.{length}
use Rattle.model_files.specs.Bytes.{block_length}
use Rattle.std.specs.Prelude.{Result, Ok, Err}
use Rattle.model_problems.specs.Problem.{ok, error}
use Rattle.model_walk.specs.Search as model
use Rattle.model_walk.specs.Validity.{admitted}
use Rattle.model_problems.specs.Points.{Point}
use Rattle.model_walk.specs.Step.{go_on, no_solution, out_of_budget, solution, block_in, step, without_block, run, checked, step_call, run_call}
use Rattle.model_walk.specs.Trace.{Trace, last_step, advance, written, traced_by, trace_call}
use Rattle.model_walk.specs.Exclude.{Exclusion as ModelExclusion, struck, ended, unsolved, exclude, exclude_call}
use Rattle.model_claims.specs.Enumeration as list
use Rattle.model_claims.specs.Enumeration.{one_turn, all_turns, strike, turns, Reply, verdict, exclusion, refused, Answer, traced, excluded, taken, answered_by, answer, shown_in, struck_in}
use Rattle.validity.proofs.Steps.{impossible}
use Rattle.soundness.proofs.Together.{advance-long}
use Rattle.state.specs.View.{view}
use Rattle.state.specs.declared.Search.{Search}
use Rattle.problem.specs.declared.Refusal.{Refusal}
use Rattle.problem.specs.declared.Refusal.TheVariants.{InvalidSearch}
use Rattle.problem.specs.Answer.{shown_by as shows_by}
use Rattle.shown.specs.Seen.{padded, case_of, seen, seen_ran, run_seen, seen_turn, seen_stepped, step_seen, SeenTraced, seen_trace, seen_traced, trace_seen}
use Rattle.shown.specs.Excluding.{SeenExclusion, exclusion_of, seen_exclusion, seen_excluded, shown_exclusion, exclude_seen}
use Rattle.shown.specs.declared.Excluded.{Excluded}
use Rattle.shown.specs.declared.Exclusion.{Exclusion}
use Rattle.shown.specs.declared.Exclusion.TheVariants as out
use Rattle.shown.specs.declared.Stepped.{Stepped}
use Rattle.answers.specs.declared.Listed.{Listed}
use Rattle.answers.specs.declared.Ran.{Ran}
use Rattle.answers.specs.declared.Traced.{Traced}
use Rattle.calls.specs.Calls.{Call, stepped, traced as tracing, ran, Makes, mapped, told, state_or, parts_at, given}
use Rattle.calls.specs.Listing as own
use Rattle.calls.specs.Listing.{Action, called, listed, last_run, struck_of, state_of, given_by, solution_in, solutions_in, rows_of, shown_by, stands_at, stands_with, stands_behind, stands_past, stands_after, strikes_in, strikes_by}
use Rattle.problem.proofs.Numbers.{taken-by}
use Rattle.calls.proofs.Shown.{invalid-by, Shows, run-tells, trace-tells, step-tells}
use Rattle.calls.proofs.Lists.{parts-back}

-- ---- the model's call; a listing ends with a run
unfoldable pub asked : Action → list.Call
asked (called (stepped r)) = one_turn
asked (called (tracing old new r)) = turns (length old / block_length)
asked (called (ran q)) = all_turns
asked (own.excluded e) = strike
asked (listed old new r) = all_turns

unfoldable pub out_of : ModelExclusion → Exclusion
out_of struck = out.Struck
out_of ended = out.Ended
out_of unsolved = out.Unsolved

out-of : (x : Exclusion) → out_of (exclusion_of x) ≡ x
unfolding out_of exclusion_of
out-of out.Struck = refl
out-of out.Ended = refl
out-of out.Unsolved = refl

pub out-ended : (x : ModelExclusion) → out_of x ≡ out.Ended → x ≡ ended
unfolding out_of
out-ended struck e = impossible (cc)
out-ended ended e = refl
out-ended unsolved e = impossible (cc)

-- what a call says is the model's reply
abbrev pub Says : Result Ran Refusal → Reply → Type 0
Says (Ok u) (verdict v) = u.verdict ≡ case_of v
Says (Ok u) (exclusion x) = ⊥
Says (Ok u) (refused n) = ⊥
Says (Err e) (verdict v) = ⊥
Says (Err e) (exclusion x) = ⊥
Says (Err e) (refused n) = e ≡ InvalidSearch

abbrev pub Strikes : Result Excluded Refusal → Reply → Type 0
Strikes (Ok u) (verdict v) = ⊥
Strikes (Ok u) (exclusion x) = u.answer ≡ out_of x
Strikes (Ok u) (refused n) = ⊥
Strikes (Err e) (verdict v) = ⊥
Strikes (Err e) (exclusion x) = ⊥
Strikes (Err e) (refused n) = e ≡ InvalidSearch

abbrev pub Replies : Action → Reply → Type 0
Replies (called c) r = Says (told c) r
Replies (own.excluded e) r = Strikes e r
Replies (listed old new l) r = Says (last_run l) r

abbrev pub Counted : Result Ran Refusal → ℕ → ℕ → Type 0
Counted (Ok u) n k = (u.count ≡ n) × (u.propagations ≡ k)
Counted (Err e) n k = Unit {0}

abbrev pub Counts : Action → ℕ → ℕ → Type 0
Counts (called c) n k = Counted (told c) n k
Counts (own.excluded e) n k = Unit {0}
Counts (listed old new l) n k = Counted (last_run l) n k

-- on the state s
pub record ActionTells (s : Search) (a : Action) (x : Answer) : Type 0 where
  pub replies : Replies a x.reply
  pub counts : Counts a x.count x.propagations
  pub state : view (state_of s a) ≡ x.state
  pub blocks : given_by a ≡ x.blocks

-- of a run's answer, and of one that is refused
pub record RunSays (s : Search) (q : Result Ran Refusal) (x : Answer) : Type 0 where
  pub replies : Says q x.reply
  pub counts : Counted q x.count x.propagations
  pub state : view (state_or s q) ≡ x.state

pub says-trace : (s : Search) (q : Result Ran Refusal) (u : Ran) (t : Trace) → q ≡ Ok u →
    Shows u (record { verdict = t.verdict; whole = case_of t.verdict; count = t.count; propagations = t.propagations; state = t.state }) → RunSays s q (traced t)
unfolding traced state_or
says-trace s q u t is y =
    rw is (record { replies = y.verdict; counts = (y.count, y.propagations); state = y.state })

pub says-refused : (s : Search) (q : Result Ran Refusal) (c : list.Call) → q ≡ Err InvalidSearch → RunSays s q (answered_by false c (view s))
unfolding answered_by state_or
says-refused s q c is = rw is (record { replies = refl; counts = tt; state = refl })

-- ---- a call or a strike on a state
module _ (s : Search) (m : model.Search) (v : view s ≡ m) where
  -- that is not refused
  module _ (t : admitted m ≡ true) where
    ok-checked : {A : Type 0} (x : A) → checked (admitted m) x ≡ ok x
    unfolding checked
    ok-checked x = rw t

    call-taken : (c : Call) → Makes s c → ActionTells s (called c) (taken (asked (called c)) m)
    unfolding asked taken told mapped given state_of given_by last_step run without_block block_in written traced
    call-taken (stepped r) e =
        let x = step-tells s r m (step m) e v (unfold step_call in ok-checked (step m)) in
        let y = says-trace s (told (stepped r)) x.answer.run (last_step (step m)) (ap (mapped (λ (z : Stepped). z.run)) x.is) x.run in
        record { replies = y.replies; counts = y.counts; state = y.state; blocks = ap (λ (z : Result Stepped Refusal). given (stepped z)) x.is ∙ x.blocks }
    call-taken (ran q) e =
        let x = run-tells s q m (run m) e v (unfold run_call in ok-checked (run m)) in
        let y = says-trace s q x.answer (last_step (run m)) x.is x.run in
        record { replies = y.replies; counts = y.counts; state = y.state; blocks = refl }
    call-taken (tracing old new r) e =
        let n = length old / block_length in
        let w = advance n m in
        let made : trace_call m old ≡ written w old = unfold trace_call in ap (λ (b : Bool). traced_by b m old) t ∙ (unfold traced_by in refl) in
        let x = trace-tells s r old new m w e v made in
        let y = says-trace s (told (tracing old new r)) x.answer.run w (ap (mapped (λ (z : Traced). z.run)) x.is) x.run in
        record {
          replies = y.replies;
          counts = y.counts;
          state = y.state;
          blocks = ap (λ (z : Result Traced Refusal). given (tracing old new z)) x.is ∙ rw (x.blocks, x.buffer) (parts-back block_length w.blocks _ (advance-long n m));
        }

    strike-by : (e : Result Excluded Refusal) (x : Excluded) → e ≡ Ok x → seen_exclusion x ≡ shown_exclusion s (exclude m) → ActionTells s (own.excluded e) (taken strike m)
    unfolding taken excluded state_of given_by seen_exclusion shown_exclusion
    strike-by e x is f =
        rw is
        (record {
          replies = sym (out-of x.answer) ∙ ap (λ (z : SeenExclusion). out_of z.answer) f;
          counts = tt;
          state = ap (λ (z : SeenExclusion). z.state) f;
          blocks = refl;
        })

    strike-taken : (e : Result Excluded Refusal) → seen_excluded e ≡ exclude_seen s → ActionTells s (own.excluded e) (taken strike m)
    unfolding seen_excluded exclude_seen exclude_call
    strike-taken e h =
        let x = taken-by seen_exclusion e (shown_exclusion s (exclude m)) (h ∙ rw (v, ok-checked (exclude m)) (unfold shows_by in refl)) in
        strike-by e x.0 x.1 x.2

  -- that is refused
  module _ (t : admitted m ≡ false) where
    no-checked : {A : Type 0} (x : A) → checked (admitted m) x ≡ error 9
    unfolding checked
    no-checked x = rw t

    refused-as : (q : Result Ran Refusal) (c : list.Call) → q ≡ Err InvalidSearch → RunSays s q (answered_by false c m)
    refused-as q c e = subst (λ (z : model.Search). RunSays s q (answered_by false c z)) v (says-refused s q c e)

    call-refused : (c : Call) → Makes s c → ActionTells s (called c) (answered_by false (asked (called c)) m)
    unfolding told mapped given state_of given_by seen_stepped seen_ran seen_traced step_seen run_seen trace_seen step_call run_call trace_call traced_by shows_by answered_by asked
    call-refused (stepped r) e =
        let x = invalid-by seen_turn r (e ∙ rw (v, no-checked (step m))) in
        let y = refused-as (told (stepped r)) one_turn (ap (mapped (λ (z : Stepped). z.run)) x) in
        record { replies = y.replies; counts = y.counts; state = y.state; blocks = ap (λ (z : Result Stepped Refusal). given (stepped z)) x }
    call-refused (ran q) e =
        let y = refused-as q all_turns (invalid-by seen q (e ∙ rw (v, no-checked (run m)))) in
        record { replies = y.replies; counts = y.counts; state = y.state; blocks = refl }
    call-refused (tracing old new r) e =
        let f : seen_traced r new ≡ record { answer = error 9; buffer = old } = e ∙ rw (v, t) refl in
        let x = invalid-by seen_trace r (ap (λ (z : SeenTraced). z.answer) f) in
        let y = refused-as (told (tracing old new r)) (turns (length old / block_length)) (ap (mapped (λ (z : Traced). z.run)) x) in
        record { replies = y.replies; counts = y.counts; state = y.state; blocks = ap (λ (z : Result Traced Refusal). given (tracing old new z)) x }

    strike-refused : (e : Result Excluded Refusal) → seen_excluded e ≡ exclude_seen s → ActionTells s (own.excluded e) (answered_by false strike m)
    unfolding answered_by state_of given_by seen_excluded exclude_seen exclude_call shows_by
    strike-refused e h =
        let x = invalid-by seen_exclusion e (h ∙ rw (v, no-checked (exclude m))) in
        rw x (record { replies = refl; counts = tt; state = v; blocks = refl })

  -- either way it tells the model's answer
  either : (a : Action) (c : list.Call) → (admitted m ≡ true → ActionTells s a (taken c m)) → (admitted m ≡ false → ActionTells s a (answered_by false c m)) → ActionTells s a (answer c m)
  unfolding answer
  either a c f g = by (admitted m) f g
    where
      by : (t : Bool) → (t ≡ true → ActionTells s a (taken c m)) → (t ≡ false → ActionTells s a (answered_by false c m)) → ActionTells s a (answered_by t c m)
      by true f g = unfold answered_by in f refl
      by false f g = g refl

  pub call-tells : (c : Call) → Makes s c → ActionTells s (called c) (answer (asked (called c)) m)
  call-tells c e = either (called c) (asked (called c)) (λ t. call-taken t c e) (λ t. call-refused t c e)

  pub strike-tells : (e : Result Excluded Refusal) → seen_excluded e ≡ exclude_seen s → ActionTells s (own.excluded e) (answer strike m)
  strike-tells e h = either (own.excluded e) strike (λ t. strike-taken t e h) (λ t. strike-refused t e h)

-- ---- from a reply to what the list shows
-- of the answer to a step, a trace or a run
said-shown : (q : Result Ran Refusal) (r : Reply) → Says q r → solutions_in q ≡ map padded (shown_in r)
unfolding solutions_in solution_in shown_in case_of
said-shown (Ok u) (verdict go_on) h = rw h refl
said-shown (Ok u) (verdict no_solution) h = rw h refl
said-shown (Ok u) (verdict out_of_budget) h = rw h refl
said-shown (Ok u) (verdict (solution x)) h = rw h refl
said-shown (Ok u) (exclusion x) h = absurd h
said-shown (Ok u) (refused n) h = absurd h
said-shown (Err e) (verdict v) h = absurd h
said-shown (Err e) (exclusion x) h = absurd h
said-shown (Err e) (refused n) h = refl

said-stands : (q : Result Ran Refusal) (r : Reply) (b : Bool) → Says q r → stands_with q b ≡ list.stands_after r b
unfolding stands_with stands_at list.stands_after case_of
said-stands (Ok u) (verdict go_on) b h = rw h refl
said-stands (Ok u) (verdict no_solution) b h = rw h refl
said-stands (Ok u) (verdict out_of_budget) b h = rw h refl
said-stands (Ok u) (verdict (solution x)) b h = rw h refl
said-stands (Ok u) (exclusion x) b h = absurd h
said-stands (Ok u) (refused n) b h = absurd h
said-stands (Err e) (verdict v) b h = absurd h
said-stands (Err e) (exclusion x) b h = absurd h
said-stands (Err e) (refused n) b h = refl

said-strikes : (q : Result Ran Refusal) (r : Reply) → Says q r → struck_in r ≡ 0
unfolding struck_in
said-strikes q (verdict v) h = refl
said-strikes (Ok u) (exclusion x) h = absurd h
said-strikes (Err e) (exclusion x) h = absurd h
said-strikes q (refused n) h = refl

said-ends : (q : Result Ran Refusal) (r : Reply) → Says q r → list.Ends r → own.Closes q
unfolding case_of
said-ends (Ok u) r h (inl (inl e)) = absurd (subst (Says (Ok u)) e h)
said-ends (Ok u) r h (inl (inr e)) = inl (subst (Says (Ok u)) e h)
said-ends (Ok u) r h (inr (inl e)) = inr (subst (Says (Ok u)) e h)
said-ends (Ok u) r h (inr (inr e)) = absurd (subst (Says (Ok u)) e h)
said-ends (Err x) r h e = tt

-- the solutions that an action strikes out before its last call
unfoldable pub rows_by : Action → List Point
rows_by (called c) = []
rows_by (own.excluded e) = []
rows_by (listed old new l) = rows_of new l

pub shown_of : (a : Action) (r : Reply) → Replies a r → shown_by a ≡ map padded (rows_by a ++ shown_in r)
unfolding shown_by rows_by shown_in
shown_of (called c) r q = said-shown (told c) r q
shown_of (own.excluded (Ok e)) (verdict v) q = absurd q
shown_of (own.excluded (Err e)) (verdict v) q = absurd q
shown_of (own.excluded e) (exclusion x) q = refl
shown_of (own.excluded e) (refused n) q = refl
shown_of (listed old new l) r q = ap (λ (us : List (List ℤ)). map padded (rows_of new l) ++ us) (said-shown (last_run l) r q) ∙ sym (map-append padded (rows_of new l) (shown_in r))

parts-many : {A : Type 0} (size k : ℕ) (xs : List A) → length (parts_at size k xs) ≡ k
unfolding parts_at
parts-many size zero xs = refl
parts-many size (suc k) xs = ap suc (parts-many size k _)

rows-many : (new : List ℤ) (l : Result Listed Refusal) → length (rows_of new l) ≡ struck_of l
unfolding rows_of struck_of
rows-many new (Ok l) = parts-many l.last.state.n l.struck new
rows-many new (Err e) = refl

past : (k : ℕ) (b : Bool) → (b ≡ true → k ≡ 0) → stands_past k b ≡ b
unfolding stands_past
past zero b h = refl
past (suc k) true h = absurd (omega (arith, h refl))
past (suc k) false h = refl

pub stands_of : (a : Action) (r : Reply) (b : Bool) → (b ≡ true → rows_by a ≡ []) → Replies a r → stands_after a b ≡ list.stands_after r b
unfolding stands_after stands_behind list.stands_after out_of rows_by
stands_of (called c) r b h q = said-stands (told c) r b q
stands_of (own.excluded (Ok e)) (verdict v) b h q = absurd q
stands_of (own.excluded (Ok e)) (exclusion struck) b h q = rw q refl
stands_of (own.excluded (Ok e)) (exclusion ended) b h q = rw q refl
stands_of (own.excluded (Ok e)) (exclusion unsolved) b h q = rw q refl
stands_of (own.excluded (Ok e)) (refused n) b h q = absurd q
stands_of (own.excluded (Err e)) (verdict v) b h q = absurd q
stands_of (own.excluded (Err e)) (exclusion x) b h q = absurd q
stands_of (own.excluded (Err e)) (refused n) b h q = refl
stands_of (listed old new l) r b h q = ap (stands_with (last_run l)) (past (struck_of l) b (λ e. sym (rows-many new l) ∙ ap length (h e))) ∙ said-stands (last_run l) r b q

pub strikes-of : (a : Action) (r : Reply) → Replies a r → strikes_by a ≡ struck_in r + length (rows_by a)
unfolding strikes_by strikes_in struck_in out_of rows_by
strikes-of (called c) r q = omega (arith, said-strikes (told c) r q)
strikes-of (own.excluded (Ok e)) (verdict v) q = absurd q
strikes-of (own.excluded (Ok e)) (exclusion struck) q = rw q refl
strikes-of (own.excluded (Ok e)) (exclusion ended) q = rw q refl
strikes-of (own.excluded (Ok e)) (exclusion unsolved) q = rw q refl
strikes-of (own.excluded (Ok e)) (refused n) q = absurd q
strikes-of (own.excluded (Err e)) (verdict v) q = absurd q
strikes-of (own.excluded (Err e)) (exclusion x) q = absurd q
strikes-of (own.excluded (Err e)) (refused n) q = refl
strikes-of (listed old new l) r q = omega (arith, said-strikes (last_run l) r q, rows-many new l)

pub ends_of : (a : Action) (r : Reply) → Replies a r → list.Ends r → own.Ends a
unfolding out_of
ends_of (called c) r q h = said-ends (told c) r q h
ends_of (own.excluded (Ok e)) r q (inl (inl h)) = subst (Strikes (Ok e)) h q
ends_of (own.excluded (Ok e)) r q (inl (inr h)) = absurd (subst (Strikes (Ok e)) h q)
ends_of (own.excluded (Ok e)) r q (inr (inl h)) = absurd (subst (Strikes (Ok e)) h q)
ends_of (own.excluded (Ok e)) r q (inr (inr h)) = absurd (subst (Strikes (Ok e)) h q)
ends_of (own.excluded (Err e)) r q h = tt
ends_of (listed old new l) r q h = said-ends (last_run l) r q h

turns-of : (c : Call) → own.Turns c → list.Turns (asked (called c))
unfolding asked
turns-of (stepped r) h = tt
turns-of (tracing old new r) h = h
turns-of (ran q) h = tt

pub due-of : (b : Bool) (a : Action) → own.Due b a → list.Due b (asked a)
unfolding asked
due-of true (called c) d = absurd d
due-of true (own.excluded e) d = tt
due-of true (listed old new l) d = absurd d
due-of false (called c) d = turns-of c d
due-of false (own.excluded e) d = absurd d
due-of false (listed old new l) d = tt
