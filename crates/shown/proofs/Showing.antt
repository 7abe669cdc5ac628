-- What the answers show is document 01's.
use Prim.Native.Nat.{ℕ, ◌+◌, ◌*◌, ◌-◌, ◌/◌, ◌≤◌}
use native.Mathlib.Numerals.{add-one}
use mathlib.Core.Bool.{Bool, true, false}
use mathlib.Core.List.{List, [], ◌++◌, append-nil}
use mathlib.Core.Option.{Option, none, some}
use mathlib.Core.Path.{◌≡◌, refl, sym, ap, subst, ◌∙◌}
use borrow.Author.Tests.{leb-true}
use lib.Dec.{eqb}
use lib.IntN.{ℤ}
use lib.ListN.{get_or, length, drop, replicate}
use lib.Seq.{take_at}
use Rattle.model_files.specs.Bytes.{block_length}
use Rattle.model_problems.specs.Lists.{tab}
use Rattle.model_problems.specs.Points.{Point}
use Rattle.std.specs.Prelude.{Ok, Err}
use Rattle.std.specs.Bool.{then_some}
use Rattle.problem.specs.declared.Refusal.{Refusal}
use Rattle.problem.specs.declared.Refusal.TheVariants.{InvalidSearch}
use Rattle.problem.specs.Answer.{number, seen_by, shown_by}
use Rattle.model_problems.specs.Problem.{ok}
use Rattle.model_walk.specs.Step.{Outcome, block_in as blocks_in, lowers, checked, step, step_call, run_call}
use Rattle.model_walk.specs.Trace.{Trace, last_step, advance, joined, written, traced_by, trace_call}
use Rattle.model_walk.specs.Listing.{Listing, ends_with, list_from, room_at, list as list_over, listed_in, listed_by, list_call}
use Rattle.model_problems.specs.Ranges.{max_propagations}
use Rattle.model_walk.specs.Validity.{valid, within_limit, admitted}
use Rattle.layout.specs.Rows.{number_in}
use Rattle.lists.proofs.Bools.{T_of, said-yes, and-true}
use Rattle.lists.proofs.Tab.{length-tab}
use Rattle.fields.specs.Fields.{zeros, filled}
use Rattle.state.specs.View.{no_level, level_at, core_over, core_of, status_of, view}
use Rattle.state.specs.declared.Search.{Search}
use Rattle.state.proofs.Shape.{view-shaped}
use Rattle.validity.specs.Valid.{Valid}
use Rattle.propagate.proofs.States.{SizesFit, sizes}
use Rattle.turns.proofs.Striking.{lowers-are}
use Rattle.turns.specs.Advancing.{verdict_of as model_verdict_of, trace_of, advance_over, Advances}
use Rattle.turns.specs.declared.Ending.{Ending}
use Rattle.turns.specs.declared.Ending.TheVariants as ending
use Rattle.turns.specs.declared.Advanced.{Advanced}
use Rattle.validity.proofs.Repeating.{advance-one}
use Rattle.answers.specs.declared.Traced.{Traced}
use Rattle.shown.specs.Seen.{verdict_of, padded, case_of, Seen, seen, shown, seen_ran, run_seen, block_of, seen_turn, shown_turn, seen_stepped, step_seen, SeenTrace, SeenTraced, seen_trace, shown_trace, seen_traced, trace_seen}
use Rattle.answers.specs.Answered.{answered}
use Rattle.answers.specs.Answered.{case_of as case_at}
use Rattle.shown.specs.Listing.{SeenListing, seen_list, seen_listed, shown_list, list_seen}
use Rattle.answers.proofs.Proceeding.{room-none, trace-alone}
use Rattle.shown.proofs.Listing.{without_blocks, Lists, lists-same}

-- ---- a state that passed the test, as the code's `if` tells it
pub record Takes (s : Search) : Type 0 where
  pub admits : admitted (view s) ≡ true
  pub valid : Valid (view s)
  pub few : s.propagations ≤ max_propagations
  pub sized : SizesFit s

pub takes : {s : Search} {r : Bool} → r ≡ admitted (view s) → r ≡ true → Takes s
takes {s} e h =
    let a = said-yes e h in
    let parts = and-true (valid (view s)) (within_limit (view s)) (unfold admitted in a) in
    let v : Valid (view s) = record { shape = unfold view in view-shaped s; tests = T_of parts.0 } in
    record { admits = a; valid = v; few = leb-true s.propagations max_propagations (unfold within_limit view in parts.1); sized = sizes s v }

-- ---- the values of a solution
view-lowers : (s : Search) → lowers (view s).core.deepest.box ≡ tab (number_in (get_or s.levels s.depth no_level).lower) 0 s.n
unfolding view core_of core_over level_at
view-lowers s = lowers-are s.n (get_or s.levels s.depth no_level)

verdict-shown : (e : Ending) (s : Search) → verdict_of s.n (case_at e s) ≡ model_verdict_of e (view s)
unfolding case_at verdict_of model_verdict_of filled
verdict-shown ending.GoOn s = refl
verdict-shown ending.NoSolution s = refl
verdict-shown ending.OutOfBudget s = refl
verdict-shown ending.Solution s =
    let f = number_in (get_or s.levels s.depth no_level).lower in
    rw (view-lowers s, take_at (tab f 0 s.n) (zeros (32 - s.n)) s.n (length-tab f 0 s.n))

case-shown : (e : Ending) (s : Search) → case_at e s ≡ case_of (model_verdict_of e (view s))
unfolding case_at case_of padded model_verdict_of filled
case-shown ending.GoOn s = refl
case-shown ending.NoSolution s = refl
case-shown ending.OutOfBudget s = refl
case-shown ending.Solution s = rw (view-lowers s, length-tab (number_in (get_or s.levels s.depth no_level).lower) 0 s.n)

-- the answer shows the trace that it stands for
answer-shown : (a : Advanced) (blocks : List (List ℕ)) → seen (answered a) ≡ (shown_trace (trace_of a blocks)).run
unfolding seen answered shown_trace trace_of
answer-shown a blocks = rw (verdict-shown a.ending a.state, ← case-shown a.ending a.state)

-- ---- a trace
abbrev pub traced : Advanced → Traced
traced a = record { run = answered a; blocks = a.blocks }

same-traced : {x y : SeenTrace} {b c : List ℕ} → x ≡ y → b ≡ c → ◌≡◌ {A = SeenTraced} (record { answer = ok x; buffer = b }) (record { answer = ok y; buffer = c })
same-traced e f = rw (e, f)

same-trace : {x y : Seen} {k l : ℕ} → x ≡ y → k ≡ l → ◌≡◌ {A = SeenTrace} (record { run = x; blocks = k }) (record { run = y; blocks = l })
same-trace e f = rw (e, f)

trace-of : (a : Advanced) (blocks : List (List ℕ)) → a.blocks ≡ length blocks → seen_trace (traced a) ≡ shown_trace (trace_of a blocks)
unfolding seen_trace shown_trace trace_of
trace-of a blocks m = same-trace (answer-shown a blocks) m

trace-is : (a : Advanced) (t : Trace) (blocks : List (List ℕ)) → a.blocks ≡ length blocks → trace_of a blocks ≡ t → seen_trace (traced a) ≡ shown_trace t
trace-is a t blocks m e = trace-of a blocks m ∙ ap shown_trace e

bytes-are : (a : Advanced) (t : Trace) (blocks : List (List ℕ)) (old now : List ℕ) → trace_of a blocks ≡ t → now ≡ joined blocks ++ drop (block_length * length blocks) old →
    now ≡ joined t.blocks ++ drop (block_length * length t.blocks) old
bytes-are a t blocks old now e b = rw (← e) (unfold trace_of in b)

pub trace-shown : (s : Search) (a : Advanced) (old now : List ℕ) (list list₁ : List ℤ) → admitted (view s) ≡ true →
    Advances (view s) (length old / block_length) true (room_at (status_of s.status) 0) a old now list list₁ → seen_traced (Ok (traced a)) now ≡ trace_seen s old
unfolding seen_traced seen_by trace_seen trace_call shown_by traced_by written
trace-shown s a old now list list₁ v h =
    let t = advance (length old / block_length) (view s) in
    let e = trace-alone (status_of s.status) h in
    rw v (same-traced (trace-is a t h.blocks h.many e) (bytes-are a t h.blocks old now e (h.buffer.written refl)))

pub trace-refused : (s : Search) (old : List ℕ) → admitted (view s) ≡ false → seen_traced (Err InvalidSearch) old ≡ trace_seen s old
unfolding seen_traced seen_by trace_seen trace_call number
trace-refused s old v = rw v (unfold traced_by shown_by in refl)

-- ---- a turn is a trace with room for one block
unfoldable pub no_block : List ℕ
no_block = replicate block_length 0

one_block : length no_block / block_length ≡ 1
unfolding no_block
one_block = refl

-- how many blocks a turn gives, and that one in the buffer
block-shown : (b : Option (List ℕ)) (k : ℕ) (bytes : List ℕ) → k ≡ length (blocks_in b) → bytes ≡ joined (blocks_in b) ++ drop (block_length * length (blocks_in b)) no_block →
    block_of (then_some (eqb k 1) bytes) ≡ b
unfolding joined blocks_in block_of no_block
block-shown none k bytes e h = rw e refl
block-shown (some b) k bytes e h = rw (e, h) (ap some (append-nil (b ++ []) ∙ append-nil b))

turn-by : (o : Outcome) (t : Traced) (block : List ℕ) → seen_trace t ≡ shown_trace (last_step o) → block ≡ (written (last_step o) no_block).buffer →
    seen_turn (record { run = t.run; block = then_some (eqb t.blocks 1) block }) ≡ shown_turn o
unfolding seen_trace shown_trace last_step written seen_turn shown_turn shown
turn-by o t block e b =
    let r = ap (λ (x : SeenTrace). x.run) e in
    let k = ap (λ (x : SeenTrace). x.blocks) e in
    rw (r, block-shown o.block t.blocks block k b)

abbrev traced-seen : Bool → Search → SeenTraced
traced-seen b s = record { answer = shown_by shown_trace (traced_by b (view s) no_block).answer; buffer = (traced_by b (view s) no_block).buffer }

step-by : (s : Search) (b : Bool) → (b ≡ true → s.conflicts ≤ s.budget) → (t : Traced) (block : List ℕ) → seen_traced (Ok t) block ≡ traced-seen b s →
    seen_stepped (Ok (record { run = t.run; block = then_some (eqb t.blocks 1) block })) ≡ shown_by shown_turn (checked b (step (view s)))
unfolding seen_traced seen_by seen_stepped traced_by shown_by checked written
step-by s true h t block e =
    let o = step (view s) in
    let q : advance (length no_block / block_length) (view s) ≡ last_step o = rw (one_block, advance-one (view s) (unfold view in h refl)) in
    let k = e ∙ ap (λ (x : Trace). record { answer = ok (shown_trace x); buffer = joined x.blocks ++ drop (block_length * length x.blocks) no_block }) q in
    let y = ap (λ (z : SeenTraced). z.answer) k in
    let x : seen_trace t ≡ shown_trace (last_step o) = cc in
    ap ok (turn-by o t block x (ap (λ (z : SeenTraced). z.buffer) k))
step-by s false h t block e = absurd (let q = ap (λ (y : SeenTraced). y.answer) e in cc)

pub step-given : (s : Search) (t : Traced) (block : List ℕ) → seen_traced (Ok t) block ≡ trace_seen s no_block →
    seen_stepped (Ok (record { run = t.run; block = then_some (eqb t.blocks 1) block })) ≡ step_seen s
unfolding trace_seen trace_call step_seen step_call
step-given s t block e = step-by s (admitted (view s)) (λ a. (takes {s = s} {r = true} (sym a) refl).sized.afford) t block e

refused-by : (s : Search) (b : Bool) (x : Refusal) (block : List ℕ) → seen_traced (Err x) block ≡ traced-seen b s → seen_stepped (Err x) ≡ shown_by shown_turn (checked b (step (view s)))
unfolding seen_traced seen_by seen_stepped traced_by shown_by checked written
refused-by s true x block e = absurd (let q = ap (λ (y : SeenTraced). y.answer) e in cc)
refused-by s false x block e = let q = ap (λ (y : SeenTraced). y.answer) e in cc

pub step-refused : (s : Search) (x : Refusal) (block : List ℕ) → seen_traced (Err x) block ≡ trace_seen s no_block → seen_stepped (Err x) ≡ step_seen s
unfolding trace_seen trace_call step_seen step_call
step-refused s x block e = refused-by s (admitted (view s)) x block e

-- ---- a listing, and a run, which has no room for a strike
module _ (s : Search) (a : Advanced) (room : ℕ) (old now : List ℕ) (list list₁ : List ℤ) (v : admitted (view s) ≡ true) (h : Advances (view s) (s.budget - s.conflicts + 1) false room a old now list list₁) where
  lists : Lists (record { struck = h.struck; last = trace_of a h.blocks }) (list_from room (view s))
  lists =
      subst (λ (l : Listing Trace). Lists l (list_from room (view s))) (sym (h.trace ∙ ap (λ (k : ℕ). advance_over room k (view s)) (add-one (s.budget - s.conflicts))))
      (unfold view in lists-same room (view s) (takes {s = s} {r = true} (sym v) refl).valid)

  ran-shown : seen (answered a) ≡ shown (list_from room (view s)).last
  unfolding shown_trace shown last_step without_blocks
  ran-shown = answer-shown a h.blocks ∙ ap (λ (t : Trace). (shown_trace t).run) lists.last

pub run-shown : (s : Search) (a : Advanced) (old now : List ℕ) (list list₁ : List ℤ) → admitted (view s) ≡ true →
    Advances (view s) (s.budget - s.conflicts + 1) false (room_at (status_of s.status) 0) a old now list list₁ → seen_ran (Ok (answered a)) ≡ run_seen s
unfolding seen_ran seen_by run_seen run_call
run-shown s a old now list list₁ v h =
    ap ok (ran-shown s a (room_at (status_of s.status) 0) old now list list₁ v h) ∙ rw (v, room-none (status_of s.status)) (unfold checked shown_by list_from ends_with in refl)

pub run-refused : (s : Search) → admitted (view s) ≡ false → seen_ran (Err InvalidSearch) ≡ run_seen s
unfolding seen_ran seen_by run_seen run_call number
run-refused s v = rw v (unfold checked shown_by in refl)

same-list : {k l : ℕ} {x y : List ℤ} {p q : Seen} → k ≡ l → x ≡ y → p ≡ q →
    ◌≡◌ {A = SeenListing} (record { answer = ok (record { struck = k; last = p }); numbers = x }) (record { answer = ok (record { struck = l; last = q }); numbers = y })
same-list e f g = rw (e, f, g)

pub list-shown : (s : Search) (a : Advanced) (old now : List ℕ) (list list₁ : List ℤ) → admitted (view s) ≡ true →
    Advances (view s) (s.budget - s.conflicts + 1) false (room_at (status_of s.status) (length list / s.n)) a old now list list₁ →
    seen_listed (Ok (record { struck = a.struck; last = answered a })) list₁ ≡ list_seen s list
unfolding seen_listed seen_by seen_list list_seen list_call listed_by listed_in shown_by shown_list list_over view core_of core_over
list-shown s a old now list list₁ v h =
    let room = room_at (status_of s.status) (length list / s.n) in
    let e = (lists s a room old now list list₁ v h).struck in
    rw v
    (same-list (h.how_many ∙ ap length e)
    (h.listed ∙ ap (λ (vs : List Point). joined vs ++ drop ((view s).core.variables * length vs) list) e)
    (ran-shown s a room old now list list₁ v h))

pub list-refused : (s : Search) (list : List ℤ) → admitted (view s) ≡ false → seen_listed (Err InvalidSearch) list ≡ list_seen s list
unfolding seen_listed seen_by list_seen list_call number
list-refused s list v = rw v (unfold listed_by shown_by in refl)
