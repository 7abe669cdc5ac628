-- A list of calls that somebody makes takes turns of the model's list.
use Prim.Native.Nat.{ℕ, zero, suc, ◌+◌, ◌-◌, ◌/◌, ◌≤◌, ◌<◌}
use native.Mathlib.Numerals.{add-one}
use native.Mathlib.Omega.{arith}
use mathlib.Core.Bool.{Bool}
use mathlib.Core.List.{List, [], ◌∷◌, ◌++◌, append-nil, append_assoc}
use mathlib.Core.Logic.{⊎_elim}
use mathlib.Core.Path.{◌≡◌, refl, sym, ap, ap₂, ◌∙◌}
use lib.ListN.{length, take, length-append}
use lib.Seq.{take_at, drop_at, take-append_seam, take-length}
use Rattle.std.specs.Prelude.{Result, Ok}
use Rattle.model_files.specs.Bytes.{block_length}
use Rattle.model_problems.specs.Problem.{Problem, ok}
use Rattle.model_walk.specs.Search as model
use Rattle.model_walk.specs.Step.{block_in, step, step_call, checked, run_call, run}
use Rattle.model_walk.specs.Trace.{Trace, advance, joined, written, traced_by, trace_call}
use Rattle.model_walk.specs.Propagations.{bounds_set}
use Rattle.model_claims.specs.Demand.{after, state_after, answer_at, blocks_in, journal, steps_together, Steps}
use Rattle.lists.proofs.Bools.{lt-or-le}
use Rattle.validity.proofs.Every.{Every}
use Rattle.soundness.proofs.Unrefused.{state-add, journal-add, journal-long}
use Rattle.state.specs.View.{view}
use Rattle.state.specs.declared.Search.{Search}
use Rattle.problem.specs.declared.Refusal.{Refusal}
use Rattle.shown.specs.Seen.{case_of}
use Rattle.shown.specs.declared.Stepped.{Stepped}
use Rattle.answers.specs.declared.Ran.{Ran}
use Rattle.answers.specs.declared.Traced.{Traced}
use Rattle.answers.specs.declared.Verdict.TheVariants.{GoOn}
use Rattle.calls.specs.Calls.{Call, stepped, traced, ran, Makes, mapped, told, state_or, ListFrom, state_in, parts_at, given, journal_of, NoRun, until_run, steps_in, steps_of}
use Rattle.calls.proofs.Shown.{TraceTells, run-tells, trace-tells, step-tells}

-- ---- parts of one size in a buffer
pub parts-back : {A : Type 0} (size : ℕ) (bs : List (List A)) (rest : List A) → Every (λ (b : List A). length b ≡ size) bs → parts_at size (length bs) (joined bs ++ rest) ≡ bs
unfolding parts_at joined
parts-back size [] rest h = refl
parts-back {A} size (b ∷ bs) rest h =
    rw (append_assoc, take_at b (joined bs ++ rest) size h.0, drop_at b (joined bs ++ rest) size h.0) (ap (λ (xs : List (List A)). b ∷ xs) (parts-back size bs rest h.1))

empty : (bs : List (List ℕ)) → length bs ≡ 0 → bs ≡ []
empty [] h = refl
empty (b ∷ bs) h = let z : ⊥ = omega arith in absurd z

-- ---- the model's list, from the state m
module _ (p : Problem) (m : model.Search) (t : Steps p m) where
  taken : (k : ℕ) → step_call (state_after k m) ≡ ok (step (state_after k m))
  unfolding answer_at
  taken k = t.taken k

  next : (k : ℕ) → state_after (k + 1) m ≡ (step (state_after k m)).state
  unfolding state_after after
  next k = state-add k 1 m ∙ ap (after (state_after k m)) (taken k)

  one_block : (k : ℕ) → journal 1 (state_after k m) ≡ block_in (step (state_after k m)).block
  unfolding journal blocks_in
  one_block k = append-nil (blocks_in (step_call (state_after k m))) ∙ ap blocks_in (taken k)

  -- from the verdict on the journal stays
  pub journal-end : (i : ℕ) → t.last ≤ i → length (journal (suc i) m) ≡ length (journal (suc t.last) m)
  journal-end i h = sym (t.counted i) ∙ (t.later i h).1 ∙ t.counted t.last

  -- and so do the bounds set
  pub set-end : (i : ℕ) → t.last ≤ i → bounds_set (suc i) m ≡ bounds_set (suc t.last) m
  set-end i h = sym (t.propagated i) ∙ (t.later i h).2 ∙ t.propagated t.last

  pub none-later : (k j : ℕ) → t.last < k → journal j (state_after k m) ≡ []
  none-later k j h =
      let a : suc (k - 1) ≡ k = omega arith in
      let b : suc (k - 1 + j) ≡ k + j = omega arith in
      let x : length (journal k m) ≡ length (journal (suc t.last) m) = rw a at (journal-end (k - 1) (omega arith)) in
      let y : length (journal (k + j) m) ≡ length (journal (suc t.last) m) = rw b at (journal-end (k - 1 + j) (omega arith)) in
      empty (journal j (state_after k m)) (omega (arith, x, y, ap length (journal-add k j m), length-append (journal k m) (journal j (state_after k m))))

  -- the blocks of the first k turns are the whole journal's first
  pub journal-prefix : (k : ℕ) → take (length (journal k m)) (journal (suc t.last) m) ≡ journal k m
  journal-prefix k = ⊎_elim within beyond (lt-or-le (suc t.last) k)
    where
      within : suc t.last < k → take (length (journal k m)) (journal (suc t.last) m) ≡ journal k m
      within h =
          let a : suc t.last + (k - suc t.last) ≡ k = omega arith in
          let e : journal k m ≡ journal (suc t.last) m =
          ap (λ (i : ℕ). journal i m) (sym a) ∙ journal-add (suc t.last) (k - suc t.last) m ∙
          ap (λ (bs : List (List ℕ)). journal (suc t.last) m ++ bs) (none-later (suc t.last) (k - suc t.last) (omega arith)) ∙ append-nil (journal (suc t.last) m) in
          rw e (take-length (journal (suc t.last) m))

      beyond : k ≤ suc t.last → take (length (journal k m)) (journal (suc t.last) m) ≡ journal k m
      beyond h =
          let a : k + (suc t.last - k) ≡ suc t.last = omega arith in
          let e : journal (suc t.last) m ≡ journal k m ++ journal (suc t.last - k) (state_after k m) = rw a at (journal-add k (suc t.last - k) m) in
          rw e (take-append_seam (journal k m) (journal (suc t.last - k) (state_after k m)))

  -- ---- one call, after k turns
  pub record CallTells (k : ℕ) (c : Call) : Type 0 where
    pub answer : Ran
    pub is : told c ≡ Ok answer
    pub state : view answer.state ≡ state_after (k + steps_in t.last c) m
    pub count : answer.count ≡ length (journal (k + steps_in t.last c) m)
    pub propagations : answer.propagations ≡ bounds_set (k + steps_in t.last c) m
    pub blocks : NoRun (c ∷ []) → given c ≡ journal (steps_in t.last c) (state_after k m)
    pub idle : steps_in t.last c ≡ 0 → answer.verdict ≡ GoOn
    pub turn : (i : ℕ) → steps_in t.last c ≡ suc i → answer.verdict ≡ case_of (step (state_after (k + i) m)).verdict

  -- the state that it leaves
  pub left : (k : ℕ) (s : Search) (c : Call) → CallTells k c → view (state_or s (told c)) ≡ state_after (k + steps_in t.last c) m
  unfolding state_or
  left k s c x = ap (λ (q : Result Ran Refusal). view (state_or s q)) x.is ∙ x.state

  step_call_lem : (k : ℕ) (s : Search) (r : Result Stepped Refusal) → view s ≡ state_after k m → Makes s (stepped r) → CallTells k (stepped r)
  unfolding told mapped steps_in given
  step_call_lem k s r v e =
      let x = step-tells s r (state_after k m) (step (state_after k m)) e v (taken k) in
      let a = x.run in
      record {
        answer = x.answer.run;
        is = ap (mapped (λ (y : Stepped). y.run)) x.is;
        state = a.state ∙ sym (next k);
        count = a.count ∙ t.counted k ∙ ap (λ (i : ℕ). length (journal i m)) (sym (add-one k));
        propagations = a.propagations ∙ t.propagated k ∙ ap (λ (i : ℕ). bounds_set i m) (sym (add-one k));
        blocks = λ n. ap (λ (y : Result Stepped Refusal). given (stepped y)) x.is ∙ x.blocks ∙ sym (one_block k);
        idle = λ h. absurd (omega arith);
        turn = λ i h. let z : k ≡ k + i = omega arith in rw (← z) a.verdict;
      }

  -- a trace with room for n blocks
  record TraceAfter (n k : ℕ) (new : List ℕ) (r : Result Traced Refusal) : Type 0 where
    answer : Traced
    is : r ≡ Ok answer
    state : view answer.run.state ≡ state_after (k + n) m
    count : answer.run.count ≡ length (journal (k + n) m)
    propagations : answer.run.propagations ≡ bounds_set (k + n) m
    blocks : parts_at block_length answer.blocks new ≡ journal n (state_after k m)
    idle : n ≡ 0 → answer.run.verdict ≡ GoOn
    turn : (i : ℕ) → n ≡ suc i → answer.run.verdict ≡ case_of (step (state_after (k + i) m)).verdict

  trace-more : (n k : ℕ) (old new : List ℕ) (r : Result Traced Refusal) → TraceTells r new (steps_together n (state_after k m)) (written (steps_together n (state_after k m)) old).buffer → TraceAfter (suc n) k new r
  unfolding steps_together written
  trace-more n k old new r x =
      let z : suc (k + n) ≡ k + suc n = omega arith in
      let w : state_after n (state_after k m) ≡ state_after (k + n) m = sym (state-add k n m) in
      let a = x.run in
      record {
        answer = x.answer;
        is = x.is;
        state = a.state ∙ sym (state-add k (suc n) m);
        count = a.count ∙ ap (λ (y : model.Search). (step y).count) w ∙ t.counted (k + n) ∙ ap (λ (i : ℕ). length (journal i m)) z;
        propagations = a.propagations ∙ ap (λ (y : model.Search). (step y).propagations) w ∙ t.propagated (k + n) ∙ ap (λ (i : ℕ). bounds_set i m) z;
        blocks = rw (x.blocks, x.buffer) (parts-back block_length (journal (suc n) (state_after k m)) _ (journal-long (suc n) (state_after k m)));
        idle = λ h. absurd (omega arith);
        turn = λ i h. let y : n ≡ i = omega arith in rw (← y, ← w) a.verdict;
      }

  trace-takes : (n k : ℕ) (old : List ℕ) → length old / block_length ≡ n → trace_call (state_after k m) old ≡ written (advance n (state_after k m)) old
  unfolding trace_call
  trace-takes n k old f =
      ap (λ (b : Bool). traced_by b (state_after k m) old) (t.accepted k) ∙ (unfold traced_by in ap (λ (i : ℕ). written (advance i (state_after k m)) old) f)

  trace-with : (n k : ℕ) (s : Search) (old new : List ℕ) (r : Result Traced Refusal) → length old / block_length ≡ n → view s ≡ state_after k m → Makes s (traced old new r) → TraceAfter n k new r
  unfolding advance case_of parts_at journal
  trace-with zero k s old new r f v e =
      let x = trace-tells s r old new (state_after k m) (advance 0 (state_after k m)) e v (trace-takes 0 k old f) in
      let z : k + 0 ≡ k = omega arith in
      let a = x.run in
      record {
        answer = x.answer;
        is = x.is;
        state = rw z a.state;
        count = rw z (a.count ∙ t.carried k);
        propagations = rw z (a.propagations ∙ t.tallied k);
        blocks = rw x.blocks refl;
        idle = λ h. a.verdict;
        turn = λ i h. absurd (omega arith);
      }
  trace-with (suc n) k s old new r f v e = trace-more n k old new r (trace-tells s r old new (state_after k m) (steps_together n (state_after k m)) e v (trace-takes (suc n) k old f ∙ ap (λ (y : Trace). written y old) (t.together k n)))

  trace-call : (k : ℕ) (s : Search) (old new : List ℕ) (r : Result Traced Refusal) → view s ≡ state_after k m → Makes s (traced old new r) → CallTells k (traced old new r)
  unfolding told mapped steps_in given
  trace-call k s old new r v e =
      let x = trace-with (length old / block_length) k s old new r refl v e in
      record {
        answer = x.answer.run;
        is = ap (mapped (λ (y : Traced). y.run)) x.is;
        state = x.state;
        count = x.count;
        propagations = x.propagations;
        blocks = λ n. ap (λ (y : Result Traced Refusal). given (traced old new y)) x.is ∙ x.blocks;
        idle = x.idle;
        turn = x.turn;
      }

  run_call_lem : (k : ℕ) (s : Search) (q : Result Ran Refusal) → view s ≡ state_after k m → Makes s (ran q) → CallTells k (ran q)
  unfolding told steps_in given
  run_call_lem k s q v e =
      let c : run_call (state_after k m) ≡ ok (run (state_after k m)) = unfold run_call checked in rw (t.accepted k) in
      let x = run-tells s q (state_after k m) (run (state_after k m)) e v c in
      let a = x.run in
      let z : suc (k + t.last) ≡ k + suc t.last = omega arith in
      let o = t.ran k in
      let l = t.later (k + t.last) (omega arith) in
      record {
        answer = x.answer;
        is = x.is;
        state = a.state ∙ o.3 ∙ sym (t.stays (k + suc t.last) (omega arith));
        count = a.count ∙ o.1 ∙ sym l.1 ∙ t.counted (k + t.last) ∙ ap (λ (i : ℕ). length (journal i m)) z;
        propagations = a.propagations ∙ o.2 ∙ sym l.2 ∙ t.propagated (k + t.last) ∙ ap (λ (i : ℕ). bounds_set i m) z;
        blocks = λ h. absurd h;
        idle = λ h. absurd (omega arith);
        turn = λ i h. let y : t.last ≡ i = omega arith in rw (← y, l.0, ← o.0) a.verdict;
      }

  pub call-tells : (k : ℕ) (s : Search) (c : Call) → view s ≡ state_after k m → Makes s c → CallTells k c
  call-tells k s (stepped r) v e = step_call_lem k s r v e
  call-tells k s (traced old new r) v e = trace-call k s old new r v e
  call-tells k s (ran q) v e = run_call_lem k s q v e

  -- ---- a list of calls, after k turns
  pub record Follows (k : ℕ) (s : Search) (cs : List Call) : Type 0 where
    pub state : view (state_in s cs) ≡ state_after (k + steps_of t.last cs) m
    -- the blocks given before the first run
    pub heard : journal_of (until_run cs) ≡ journal (steps_of t.last (until_run cs)) (state_after k m)
    -- and from there on none
    pub silent : journal_of cs ≡ journal_of (until_run cs)

  -- after the verdict no call gives a block
  quiet : (k : ℕ) (s : Search) (cs : List Call) → t.last < k → view s ≡ state_after k m → ListFrom s cs → journal_of cs ≡ []
  unfolding journal_of
  quiet k s [] h v l = refl
  quiet k s (c ∷ cs) h v l =
      let x = call-tells k s c v l.0 in
      rw (quiet-call c x, quiet (k + steps_in t.last c) (state_or s (told c)) cs (omega arith) (left k s c x) l.1)
    where
      quiet-call : (c : Call) → CallTells k c → given c ≡ []
      quiet-call (stepped r) x = x.blocks tt ∙ none-later k _ h
      quiet-call (traced old new r) x = x.blocks tt ∙ none-later k _ h
      quiet-call (ran q) x = unfold given in refl

  -- a call that is no run, and a list after it
  more : (k : ℕ) (s : Search) (c : Call) (cs : List Call) → NoRun (c ∷ []) → until_run (c ∷ cs) ≡ c ∷ until_run cs → CallTells k c → Follows (k + steps_in t.last c) (state_or s (told c)) cs → Follows k s (c ∷ cs)
  unfolding state_in journal_of steps_of
  more k s c cs h u x n =
      let a = steps_in t.last c in
      let b = steps_of t.last (until_run cs) in
      let z : k + a + steps_of t.last cs ≡ k + (a + steps_of t.last cs) = omega arith in
      let e : given c ++ journal_of (until_run cs) ≡ journal (a + b) (state_after k m) =
      ap₂ (λ (xs ys : List (List ℕ)). xs ++ ys) (x.blocks h) (n.heard ∙ ap (journal b) (state-add k a m)) ∙ sym (journal-add a b (state_after k m)) in
      record {
        state = n.state ∙ ap (λ (i : ℕ). state_after i m) z;
        heard = rw u e;
        silent = rw u (ap (λ (bs : List (List ℕ)). given c ++ bs) n.silent);
      }

  pub follows : (cs : List Call) (k : ℕ) (s : Search) → view s ≡ state_after k m → ListFrom s cs → Follows k s cs
  unfolding state_in journal_of steps_of until_run journal given
  follows [] k s v l = let z : k + 0 ≡ k = omega arith in record { state = rw z v; heard = refl; silent = refl }
  follows (stepped r ∷ cs) k s v l =
      let x = call-tells k s (stepped r) v l.0 in
      more k s (stepped r) cs tt refl x (follows cs (k + steps_in t.last (stepped r)) (state_or s (told (stepped r))) (left k s (stepped r) x) l.1)
  follows (traced old new r ∷ cs) k s v l =
      let x = call-tells k s (traced old new r) v l.0 in
      more k s (traced old new r) cs tt refl x (follows cs (k + steps_in t.last (traced old new r)) (state_or s (told (traced old new r))) (left k s (traced old new r) x) l.1)
  follows (ran q ∷ cs) k s v l =
      let x = call-tells k s (ran q) v l.0 in
      let n = follows cs (k + steps_in t.last (ran q)) (state_or s (told (ran q))) (left k s (ran q) x) l.1 in
      let z : k + steps_in t.last (ran q) + steps_of t.last cs ≡ k + (steps_in t.last (ran q) + steps_of t.last cs) = omega arith in
      record {
        state = n.state ∙ ap (λ (i : ℕ). state_after i m) z;
        heard = refl;
        silent = quiet (k + steps_in t.last (ran q)) (state_or s (told (ran q))) cs (unfold steps_in in omega arith) (left k s (ran q) x) l.1;
      }

-- ---- one call more
pub one_more : (cs : List Call) (s : Search) (c : Call) → ListFrom s cs → Makes (state_in s cs) c → ListFrom s (cs ++ (c ∷ []))
unfolding state_in
one_more [] s c h e = (e, tt)
one_more (d ∷ cs) s c h e = (h.0, one_more cs (state_or s (told d)) c h.1 e)

pub steps-more : (last : ℕ) (cs : List Call) (c : Call) → steps_of last (cs ++ (c ∷ [])) ≡ steps_of last cs + steps_in last c
unfolding steps_of
steps-more last [] c = omega arith
steps-more last (d ∷ cs) c = omega (arith, steps-more last cs c)

pub no_run : (cs : List Call) → NoRun cs → until_run cs ≡ cs
unfolding until_run
no_run [] h = refl
no_run (stepped r ∷ cs) h = ap (λ (ds : List Call). stepped r ∷ ds) (no_run cs h)
no_run (traced old new r ∷ cs) h = ap (λ (ds : List Call). traced old new r ∷ ds) (no_run cs h)
no_run (ran q ∷ cs) h = absurd h
