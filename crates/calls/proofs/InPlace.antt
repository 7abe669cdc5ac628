-- A listing of somebody's, after a list of the model's calls: it tells what the model's tells, and its rows are the solutions that this one strikes out.
use Prim.Native.Nat.{ℕ, zero, suc, ◌+◌, ◌*◌, ◌/◌, ◌≤◌, ◌<◌}
use native.Mathlib.Nat.{mul-le-mul_left, mul-div-le}
use native.Mathlib.Omega.{arith}
use mathlib.Core.Bool.{Bool, true, false, cond}
use mathlib.Core.List.{List, [], ◌∷◌, ◌++◌, map, append_assoc}
use mathlib.Core.Logic.{inl, inr, ⊎_elim, ⊎_map}
use mathlib.Core.Option.{some}
use mathlib.Core.Path.{◌≡◌, refl, sym, ap, ap₂, subst, ◌∙◌}
use lib.IntN.{ℤ}
use lib.ListN.{length, take, drop, get_elem?, length-append, length-drop}
use lib.Seq.{take_at, drop_at, drop-append-add}
use Rattle.model_problems.specs.Problem.{Problem, variables, ok, error}
use Rattle.model_walk.specs.Search as model
use Rattle.model_walk.specs.Validity.{admitted}
use Rattle.model_problems.specs.Points.{Point, all_solutions}
use Rattle.model_walk.specs.Step.{Verdict as ModelVerdict, go_on, Outcome, block_in, without_block, run}
use Rattle.model_walk.specs.Trace.{last_step, joined}
use Rattle.model_walk.specs.Listing as listing
use Rattle.model_walk.specs.Listing.{Listing, listed_in, listed_by, list_call}
use Rattle.model_claims.specs.Enumeration.{Call, all_turns, verdict, traced, taken, answered_by, answer, walk, says, stands, shown, strikes, set_by, set_in, Enumerates}
use Rattle.validity.proofs.Every.{Every}
use Rattle.validity.proofs.Steps.{impossible}
use Rattle.soundness.proofs.Standing.{answered, refusing}
use Rattle.soundness.proofs.InPlace as place
use Rattle.soundness.proofs.InPlace.{rounds, Placed, Wide, placed-wide, Between, nothing-between, last-ready, Full, InPlace, none-again}
use Rattle.state.specs.View.{core_over, core_of, view}
use Rattle.state.specs.declared.Search.{Search}
use Rattle.std.specs.Prelude.{Result, Ok, Err}
use Rattle.problem.specs.declared.Refusal.{Refusal}
use Rattle.problem.specs.declared.Refusal.TheVariants.{InvalidSearch}
use Rattle.problem.specs.Answer.{shown_by}
use Rattle.shown.specs.Seen.{padded, case_of}
use Rattle.shown.specs.Listing.{SeenList, SeenListing, seen_list, seen_listed, shown_list, list_seen}
use Rattle.answers.specs.declared.Listed.{Listed}
use Rattle.answers.specs.declared.Ran.{Ran}
use Rattle.answers.specs.declared.Verdict.TheVariants as said
use Rattle.calls.specs.Calls.{mapped, state_or, parts_at}
use Rattle.calls.specs.Listing as own
use Rattle.calls.specs.Listing.{Action, listed, Does, last_run, struck_of, state_of, given_by, rows_of, set_in_runs, TurnAfter, ListAfter}
use Rattle.problem.proofs.Numbers.{taken-by}
use Rattle.calls.proofs.Shown.{case-plain, case-solution, invalid-by, Tells, tells}
use Rattle.calls.proofs.Lists.{parts-back}
use Rattle.calls.proofs.Replies.{ActionTells, RunSays, says-trace, says-refused}
use Rattle.calls.proofs.Tallies.{runs-set}

-- ---- rows in a buffer
joined-long : (n : ℕ) (vs : List Point) → Every (λ (v : Point). length v ≡ n) vs → length (joined vs) ≡ n * length vs
unfolding joined
joined-long n [] h = omega arith
joined-long n (v ∷ vs) h = omega (arith, length-append v (joined vs), h.0, joined-long n vs h.1)

row_at : (p : Problem) (n k j : ℕ) (vs : List Point) (rest : List ℤ) → Placed p k vs → Every (λ (v : Point). length v ≡ n) vs → j < length vs →
    get_elem? (all_solutions p) (k + j) ≡ some (take n (drop (n * j) (joined vs ++ rest)))
unfolding joined
row_at p n k j [] rest a h l = absurd (omega arith)
row_at p n k zero (v ∷ vs) rest a h l =
    let i : k + 0 ≡ k = omega arith in
    let o : n * 0 ≡ 0 = omega arith in
    rw (i, o, append_assoc v (joined vs) rest) (a.0 ∙ ap some (sym (take_at v (joined vs ++ rest) n h.0)))
row_at p n k (suc j) (v ∷ vs) rest a h l =
    let i : k + suc j ≡ suc k + j = omega arith in
    let o : n * suc j ≡ length v + n * j = omega (arith, h.0) in
    rw (i, o, append_assoc v (joined vs) rest, drop-append-add v (joined vs ++ rest) (n * j)) (row_at p n (suc k) j vs rest a.1 h.1 (omega arith))

within : (n k a : ℕ) → k ≤ a / n → n * k ≤ a
within n k a h = omega (arith, mul-le-mul_left n h, mul-div-le a n)

-- by the number of its variables, and of those struck out
rows-by : (x : Search) (old new : List ℤ) (r : Result Listed Refusal) (n k : ℕ) → (state_of x (listed old new r)).n ≡ n → struck_of r ≡ k → rows_of new r ≡ parts_at n k new
unfolding rows_of struck_of state_of last_run mapped state_or parts_at
rows-by x old new (Ok l) n k e f = ap₂ (λ (i j : ℕ). parts_at i j new) e f
rows-by x old new (Err d) n k e f = rw (← f) refl

-- the state that its answer has is the one after it
left-by : (x : Search) (old new : List ℤ) (r : Result Listed Refusal) (u : Ran) → last_run r ≡ Ok u → own.Beyond (state_of x (listed old new r)) → own.Beyond u.state
unfolding state_of state_or
left-by x old new r u e = subst own.Beyond (ap (state_or x) e)

-- what a listing after the model's calls cs tells: it strikes out the solutions vs, and its last run answers as one after those strikes
pub record ListTells (p : Problem) (m : model.Search) (cs : List Call) (x : Search) (old new : List ℤ) (r : Result Listed Refusal) : Type 0 where
  pub vs : List Point
  pub many : struck_of r ≡ length vs
  pub numbers : new ≡ joined vs ++ drop (variables p * length vs) old
  pub tells : ActionTells x (listed old new r) (answer all_turns (walk (rounds (length vs) cs) m))
  pub between : Between p m cs (rounds (length vs) cs) vs
  -- none of its calls is refused, or it is before all else
  pub same : admitted (walk (rounds (length vs) cs) m) ≡ admitted (walk cs m)
  pub set : cond (admitted (walk cs m)) (set_in_runs (length vs) (walk cs m)) 0 + set_in cs m ≡ set_in (all_turns ∷ rounds (length vs) cs) m
  pub ended : (u : Ran) → last_run r ≡ Ok u → ¬ (u.verdict ≡ said.GoOn)
  pub few : length vs ≤ length old / variables p
  pub full : stands cs m ≡ false → (u : Ran) (values : List ℤ) → last_run r ≡ Ok u → u.verdict ≡ said.Solution values → Full p m (rounds (length vs) cs) (length vs) (length old / variables p)

module _ (p : Problem) (m : model.Search) (z : Enumerates p m) (y : (cs : List Call) → place.Listed p m cs) where
  module _ (cs : List Call) (x : Search) (w : view x ≡ walk cs m) (old new : List ℤ) (r : Result Listed Refusal) (e : Does x (listed old new r)) where
    -- ---- one that is refused
    tells-refused : admitted (walk cs m) ≡ false → ListTells p m cs x old new r
    unfolding rounds answered_by joined state_of given_by last_run mapped seen_listed list_seen list_call set_in set_by struck_of shown_by
    tells-refused h =
        let f : seen_listed r new ≡ record { answer = error 9; numbers = old } = e ∙ (unfold listed_by in rw (w, h) refl) in
        let is = invalid-by seen_list r (ap (λ (s : SeenListing). s.answer) f) in
        let last : last_run r ≡ Err InvalidSearch = ap last_run is in
        let y = subst (λ (z : model.Search). RunSays x (last_run r) (answered_by false all_turns z)) w (says-refused x (last_run r) all_turns last) in
        let o : variables p * 0 ≡ 0 = omega arith in
        record {
          vs = [];
          many = ap struck_of is;
          numbers = rw o (ap (λ (s : SeenListing). s.numbers) f);
          tells = rw (refusing all_turns (walk cs m) h) (record { replies = y.replies; counts = y.counts; state = y.state; blocks = refl });
          between = nothing-between p m cs;
          same = refl;
          set = rw h;
          ended = λ u k. impossible (let g = last in cc);
          few = omega arith;
          full = λ n u v k. impossible (let g = last in cc);
        }

    -- ---- one that is not
    module _ (a : admitted (walk cs m) ≡ true) where
      abbrev l : Listing Outcome
      l = listing.list (length old / (walk cs m).core.variables) (walk cs m)

      abbrev here : InPlace p m cs (length old / (walk cs m).core.variables) l
      here = (y cs).calls (length old / (walk cs m).core.variables) a

      seen_here : seen_listed r new ≡ record { answer = ok (shown_list l); numbers = joined l.struck ++ drop ((walk cs m).core.variables * length l.struck) old }
      unfolding list_seen list_call listed_by listed_in shown_by
      seen_here = e ∙ rw (w, a) refl

      given : (u : Listed) × (r ≡ Ok u) × (seen_list u ≡ shown_list l)
      unfolding seen_listed
      given = taken-by seen_list r (shown_list l) (ap (λ (s : SeenListing). s.answer) seen_here)

      many : struck_of r ≡ length l.struck
      unfolding struck_of seen_list shown_list
      many = ap struck_of given.1 ∙ ap (λ (s : SeenList). s.struck) given.2

      last-is : last_run r ≡ Ok given.0.last
      unfolding last_run mapped
      last-is = ap last_run given.1

      tells-last : Tells given.0.last l.last
      unfolding seen_list shown_list
      tells-last = tells given.0.last l.last (ap (λ (s : SeenList). s.last) given.2)

      none-given : block_in l.last.block ≡ []
      unfolding run without_block block_in
      none-given = ap (λ (o : Outcome). block_in o.block) (sym here.last)

      -- the run after the last strike
      last-tells : ActionTells x (listed old new r) (answer all_turns (walk (rounds (length l.struck) cs) m))
      unfolding taken traced last_step state_of given_by
      last-tells =
          let t = says-trace x (last_run r) given.0.last (last_step l.last) last-is tells-last in
          rw (answered all_turns (walk (rounds (length l.struck) cs) m) (last-ready m (length l.struck) cs here.ready), here.last)
          (record { replies = t.replies; counts = t.counts; state = t.state; blocks = sym none-given })

      -- its answer is that one
      said-last : (u : Ran) → last_run r ≡ Ok u → u.verdict ≡ case_of l.last.verdict
      said-last u k = let i : u ≡ given.0.last = (let h = last-is in cc) in ap (λ (z : Ran). z.verdict) i ∙ tells-last.verdict

      tells-taken : ListTells p m cs x old new r
      unfolding last_step seen_listed
      tells-taken =
          let n = (y cs).variables in
          record {
            vs = l.struck;
            many = many;
            numbers = ap (λ (s : SeenListing). s.numbers) seen_here ∙ ap (λ (i : ℕ). joined l.struck ++ drop (i * length l.struck) old) n;
            tells = last-tells;
            between = here.between;
            same = last-ready m (length l.struck) cs here.ready ∙ sym a;
            set = rw a (sym (runs-set m (length l.struck) cs here.ready));
            ended = λ u k h. (y (rounds (length l.struck) cs)).ends (ap (λ (o : Outcome). o.verdict) here.last ∙ case-plain l.last.verdict said.GoOn tt (sym (said-last u k) ∙ h));
            few = subst (λ (i : ℕ). length l.struck ≤ length old / i) n here.few;
            full = λ k u v i h.
                let g = case-solution l.last.verdict v (sym (said-last u i) ∙ h) in
                subst (λ (i : ℕ). Full p m (rounds (length l.struck) cs) (length l.struck) (length old / i)) n (here.full g.0 k g.1);
          }

    pub listing-tells : ListTells p m cs x old new r
    listing-tells = by (admitted (walk cs m)) refl
      where
        by : (t : Bool) → admitted (walk cs m) ≡ t → ListTells p m cs x old new r
        by true h = tells-taken h
        by false h = tells-refused h

    -- ---- its buffer
    wide : Every (Wide p) listing-tells.vs
    wide = placed-wide p (strikes cs m) listing-tells.vs listing-tells.between.places

    width : (state_of x (listed old new r)).n ≡ variables p
    unfolding view core_of core_over walk
    width = ap (λ (s : model.Search). s.core.variables) listing-tells.tells.state ∙ (y (all_turns ∷ rounds (length listing-tells.vs) cs)).variables

    pub rows_are : rows_of new r ≡ listing-tells.vs
    rows_are =
        let t = listing-tells in
        rows-by x old new r (variables p) (length t.vs) width t.many ∙ ap (parts_at (variables p) (length t.vs)) t.numbers ∙
        parts-back (variables p) t.vs (drop (variables p * length t.vs) old) wide

    -- after the calls acts, which are those of cs
    pub list-after : (acts : List Action) → own.stands acts ≡ stands cs m → own.strikes acts ≡ strikes cs m →
        (shown (all_turns ∷ rounds (struck_of r) cs) m ≡ all_solutions p → own.shown (listed old new r ∷ acts) ≡ map padded (all_solutions p)) →
        (admitted (walk (all_turns ∷ rounds (struck_of r) cs) m) ≡ false → own.Beyond (state_of x (listed old new r))) → TurnAfter p x acts (listed old new r) (last_run r) → ListAfter p x acts old new r
    list-after acts stand strike all over t =
        let left : (u : Ran) → last_run r ≡ Ok u → own.Beyond (state_of x (listed old new r)) → own.Beyond u.state = left-by x old new r in
        let q = listing-tells in
        let n = variables p in
        let k = struck_of r in
        let far : length (joined q.vs) ≡ n * k = joined-long n q.vs wide ∙ ap (λ (i : ℕ). n * i) (sym q.many) in
        let is : new ≡ joined q.vs ++ drop (n * k) old = q.numbers ∙ ap (λ (i : ℕ). joined q.vs ++ drop (n * i) old) (sym q.many) in
        let inside : n * k ≤ length old = within n k (length old) (omega (arith, q.many, q.few)) in
        record {
          last = t;
          ended = q.ended;
          marked = λ h. q.many ∙ ap length (q.between.marked (sym stand ∙ h));
          full = λ h u v i e.
              ⊎_elim inl (λ j. inr (⊎_map all (λ b. left u i (over b)) j)) (subst (λ (i : ℕ). Full p m (rounds i cs) i (length old / n)) (sym q.many) (q.full (sym stand ∙ h) u v i e));
          rows = λ j h. rw (strike, q.numbers) (row_at p n (strikes cs m) j q.vs (drop (n * length q.vs) old) q.between.places wide (omega (arith, q.many)));
          rest = ap (drop (n * k)) is ∙ drop_at (joined q.vs) (drop (n * k) old) (n * k) far;
          inside = inside;
          long = ap length is ∙ omega (arith, length-append (joined q.vs) (drop (n * k) old), length-drop (n * k) old, far);
          wide = width;
        }

  -- after a verdict nothing is struck out
  pub listing_none : (c : Call) (cs : List Call) (v : ModelVerdict) → admitted (walk (c ∷ cs) m) ≡ true → says c cs m ≡ verdict v → ¬ (v ≡ go_on) → (x : Search) → view x ≡ walk (c ∷ cs) m → (old new : List ℤ) (r : Result Listed Refusal) → Does x (listed old new r) → struck_of r ≡ 0
  listing_none c cs v a h n x w old new r e =
      let room = length old / (walk (c ∷ cs) m).core.variables in
      many (c ∷ cs) x w old new r e a ∙ ap length (none-again p m z c cs v room a h n ((y (c ∷ cs)).calls room a))
