-- N4, of the calls: a list of them is a list of the model's calls, in which a listing is runs and strikes by turns.
use Prim.Native.Nat.{ℕ, zero, suc, ◌+◌, ◌≤◌}
use native.Mathlib.Nat.{zero-add}
use native.Mathlib.Omega.{arith}
use mathlib.Core.Bool.{Bool, true, false, cond}
use mathlib.Core.List.{List, [], ◌∷◌, ◌++◌, map, map-append, append-nil, append_assoc}
use mathlib.Core.Logic.{inl, inr, ⊎_map}
use mathlib.Core.Path.{◌≡◌, refl, sym, ap, ap₂, subst, ◌∙◌}
use lib.Dec.{leb}
use lib.IntN.{ℤ}
use lib.ListN.{length, take, length-map}
use borrow.Author.Tests.{leb-true, leb-false, le-leb, lt-leb}
use Rattle.model_problems.specs.Ranges.{max_propagations}
use Rattle.model_problems.specs.Problem.{Problem, variables}
use Rattle.model_walk.specs.Search as model
use Rattle.model_walk.specs.Search.{open_problem}
use Rattle.model_walk.specs.Validity.{admitted}
use Rattle.model_problems.specs.Points.{Point, all_solutions}
use Rattle.model_walk.specs.Step.{Verdict as ModelVerdict}
use Rattle.model_claims.specs.Demand.{MeetsCuts}
use Rattle.model_claims.specs.Enumeration as list
use Rattle.model_claims.specs.Enumeration.{all_turns, strike, Reply, verdict, exclusion, refused, Answer, answered_by, answer, walk, says, shown_in, struck_in, Enumerates}
use Rattle.lists.proofs.Bools.{clash}
use Rattle.validity.proofs.Steps.{impossible}
use Rattle.soundness.proofs.Standing.{said-admitted, refused-only}
use Rattle.soundness.proofs.Listings.{listings-of-problems}
use Rattle.soundness.proofs.InPlace as place
use Rattle.soundness.proofs.InPlace.{rounds, Between, nothing-between}
use Rattle.state.specs.View.{view}
use Rattle.state.specs.declared.Search.{Search}
use Rattle.std.specs.Prelude.{Result, Ok, Err}
use Rattle.model_walk.specs.Exclude.{Exclusion, unsolved}
use Rattle.problem.specs.declared.Refusal.{Refusal}
use Rattle.problem.specs.declared.Refusal.TheVariants.{InvalidSearch}
use Rattle.shown.specs.Seen.{padded, case_of}
use Rattle.shown.specs.declared.Excluded.{Excluded}
use Rattle.answers.specs.declared.Listed.{Listed}
use Rattle.answers.specs.declared.Ran.{Ran}
use Rattle.answers.specs.declared.Verdict.TheVariants as said
use Rattle.calls.specs.Calls.{problem_from, stepped, traced as tracing, ran, told, state_or}
use Rattle.calls.specs.Listing as own
use Rattle.calls.specs.Listing.{Action, called, listed, Does, last_run, struck_of, state_of, state_after, DoneFrom, blocks_of, stands, shown, strikes, set_in_runs, set_by, set_in, Lists, Again, SaysAgain, SaysAfter, TurnAfter, ListAfter, StrikeAfter, ListingOf, ListingsHoldFrom}
use Rattle.calls.proofs.Shown.{case-plain, case-solution}
use Rattle.calls.proofs.Replies.{asked, out_of, out-ended, Says, Strikes, Replies, Counted, Counts, ActionTells, call-tells, strike-tells, rows_by, shown_of, stands_of, strikes-of, ends_of, due-of}
use Rattle.calls.proofs.Tallies.{limit, call-sets, strike-sets}
use Rattle.calls.proofs.InPlace.{listing-tells, rows_are, list-after, listing_none}
use Rattle.calls.proofs.Demand.{fine-source, fresh}

-- ---- the model's calls: those before an action's last one, and all of a list's
unfoldable earlier : Action → List list.Call → List list.Call
earlier (called c) cs = cs
earlier (own.excluded e) cs = cs
earlier (listed old new r) cs = rounds (struck_of r) cs

unfoldable calls_of : List Action → List list.Call
calls_of [] = []
calls_of (a ∷ acts) = asked a ∷ earlier a (calls_of acts)

silent-of : (acts : List Action) → own.NoRun acts → list.NoRun (calls_of acts)
unfolding asked earlier calls_of
silent-of [] h = tt
silent-of (called (stepped r) ∷ acts) h = silent-of acts h
silent-of (called (tracing old new r) ∷ acts) h = silent-of acts h
silent-of (called (ran q) ∷ acts) h = absurd h
silent-of (own.excluded e ∷ acts) h = silent-of acts h
silent-of (listed old new r ∷ acts) h = absurd h

rounds-many : (k : ℕ) (cs : List list.Call) → length cs ≤ length (rounds k cs)
unfolding rounds
rounds-many zero cs = omega arith
rounds-many (suc k) cs = omega (arith, rounds-many k (strike ∷ all_turns ∷ cs))

-- at least one for each action
calls-many : (acts : List Action) → length acts ≤ length (calls_of acts)
unfolding calls_of earlier
calls-many [] = omega arith
calls-many (called c ∷ acts) = omega (arith, calls-many acts)
calls-many (own.excluded e ∷ acts) = omega (arith, calls-many acts)
calls-many (listed old new r ∷ acts) = omega (arith, calls-many acts, rounds-many (struck_of r) (calls_of acts))

-- ---- the solutions shown
unless-map : (b : Bool) (us : List Point) → cond b [] (map padded us) ≡ map padded (cond b [] us)
unless-map true us = refl
unless-map false us = refl

show-more : (b : Bool) (us vs ws : List Point) → (b ≡ true → vs ≡ []) → us ++ cond b [] (vs ++ ws) ≡ (us ++ vs) ++ cond b [] ws
show-more true us vs ws h = rw (h refl) (sym (append-nil (us ++ [])))
show-more false us vs ws h = sym (append_assoc us vs ws)

-- ---- a verdict that is said again
again-by : (q : Ran) (w : Result Ran Refusal) (v : ModelVerdict) → Says w (verdict v) → (n k : ℕ) → Counted w n k → q.verdict ≡ case_of v → n ≡ q.count → k ≡ q.propagations → Again q w
again-by q (Ok u) v e n k c r f g = (e ∙ sym r, (c.0 ∙ f, c.1 ∙ g))
again-by q (Err d) v e n k c r f g = absurd e

module _ (p : Problem) (s : Search) (m : model.Search) (start : view s ≡ m) (z : Enumerates p m) (y : (cs : List list.Call) → place.Listed p m cs) where
  record Follows (acts : List Action) : Type 0 where
    state : view (state_after s acts) ≡ walk (calls_of acts) m
    stand : stands acts ≡ list.stands (calls_of acts) m
    show : shown acts ≡ map padded (list.shown (calls_of acts) m)
    strike : strikes acts ≡ list.strikes (calls_of acts) m
    block : blocks_of acts ≡ list.blocks_of (calls_of acts) m
    set : set_in s acts ≡ list.set_in (calls_of acts) m
    keeps : own.KeptUp acts → list.KeptUp (calls_of acts) m

  -- an action after them: its last call tells the model's answer, and the calls before that one strike out its rows; they are refused together
  record Acts (a : Action) (acts : List Action) : Type 0 where
    tells : ActionTells (state_after s acts) a (answer (asked a) (walk (earlier a (calls_of acts)) m))
    between : Between p m (calls_of acts) (earlier a (calls_of acts)) (rows_by a)
    same : admitted (walk (earlier a (calls_of acts)) m) ≡ admitted (walk (calls_of acts) m)
    set : cond (admitted (walk (calls_of acts) m)) (set_by a (walk (calls_of acts) m)) 0 + list.set_in (calls_of acts) m ≡ list.set_in (asked a ∷ earlier a (calls_of acts)) m

  acts-of : (a : Action) (acts : List Action) → Follows acts → Does (state_after s acts) a → Acts a acts
  unfolding earlier rows_by asked set_by list.set_in
  acts-of (called c) acts f d =
      let cs = calls_of acts in
      record { tells = call-tells (state_after s acts) (walk cs m) f.state c d; between = nothing-between p m cs; same = refl; set = ap (λ (i : ℕ). i + list.set_in cs m) (call-sets c (walk cs m)) }
  acts-of (own.excluded e) acts f d =
      let cs = calls_of acts in
      record { tells = strike-tells (state_after s acts) (walk cs m) f.state e d; between = nothing-between p m cs; same = refl; set = ap (λ (i : ℕ). i + list.set_in cs m) (strike-sets e (walk cs m)) }
  acts-of (listed old new r) acts f d =
      let cs = calls_of acts in
      let q = listing-tells p m z y cs (state_after s acts) f.state old new r d in
      let many = sym q.many in
      record {
        tells = subst (λ (i : ℕ). ActionTells (state_after s acts) (listed old new r) (answer all_turns (walk (rounds i cs) m))) many q.tells;
        between = subst (Between p m cs (rounds (struck_of r) cs)) (sym (rows_are p m z y cs (state_after s acts) f.state old new r d)) (subst (λ (i : ℕ). Between p m cs (rounds i cs) q.vs) many q.between);
        same = subst (λ (i : ℕ). admitted (walk (rounds i cs) m) ≡ admitted (walk cs m)) many q.same;
        set = subst (λ (i : ℕ). cond (admitted (walk cs m)) (set_in_runs i (walk cs m)) 0 + list.set_in cs m ≡ list.set_in (all_turns ∷ rounds i cs) m) many q.set;
      }

  follows : (acts : List Action) → DoneFrom s acts → Follows acts
  unfolding state_after stands shown strikes blocks_of set_in walk says list.stands list.shown list.strikes list.blocks_of list.set_in calls_of
  follows [] d = record { state = start; stand = refl; show = refl; strike = refl; block = refl; set = refl; keeps = λ k. tt }
  follows (a ∷ acts) d =
      let f = follows acts d.1 in
      let x = acts-of a acts f d.0 in
      let t = x.tells in
      let b = x.between in
      let cs = calls_of acts in
      let r = (answer (asked a) (walk (earlier a cs) m)).reply in
      let before : stands acts ≡ list.stands (earlier a cs) m = f.stand ∙ sym b.stand in
      let us = rows_by a ++ shown_in r in
      record {
        state = t.state;
        stand = stands_of a r (stands acts) (λ e. b.marked (sym f.stand ∙ e)) t.replies ∙ ap (list.stands_after r) before;
        show = ap₂ (λ (us ws : List (List ℤ)). us ++ ws) f.show (ap₂ (λ (i : Bool) (us : List (List ℤ)). cond i [] us) f.stand (shown_of a r t.replies) ∙ unless-map (list.stands cs m) us) ∙
            sym (map-append padded (list.shown cs m) (cond (list.stands cs m) [] us)) ∙
            ap (map padded) (show-more (list.stands cs m) (list.shown cs m) (rows_by a) (shown_in r) b.marked ∙ ap₂ (λ (us : List Point) (i : Bool). us ++ cond i [] (shown_in r)) (sym b.show) (sym b.stand));
        strike = omega (arith, strikes-of a r t.replies, b.strike, f.strike);
        block = ap₂ (λ (bs ds : List (List ℕ)). bs ++ ds) (f.block ∙ sym b.block) t.blocks;
        set = ap₂ (λ (u : model.Search) (i : ℕ). cond (admitted u) (set_by a u) 0 + i) f.state f.set ∙ x.set;
        keeps = λ k. (subst (λ (i : Bool). list.Due i (asked a)) before (due-of (stands acts) a k.0), (λ h. k.1 (ends_of a r t.replies h)), b.kept (f.keeps k.2));
      }

  -- ---- every list
  conflicts-of : (acts : List Action) → Follows acts → (state_after s acts).conflicts ≡ (walk (calls_of acts) m).conflicts
  unfolding view
  conflicts-of acts f = ap (λ (x : model.Search). x.conflicts) f.state

  propagations-of : (acts : List Action) → Follows acts → (state_after s acts).propagations ≡ (walk (calls_of acts) m).propagations
  unfolding view
  propagations-of acts f = ap (λ (x : model.Search). x.propagations) f.state

  -- the next call is refused where the count has passed its limit
  tests : (acts : List Action) → Follows acts → admitted (walk (calls_of acts) m) ≡ leb (state_after s acts).propagations max_propagations
  tests acts f = limit (state_after s acts) (walk (calls_of acts) m) f.state (y (calls_of acts)).whole

  lists_of : (acts : List Action) → DoneFrom s acts → Lists p s acts
  lists_of acts d =
      let f = follows acts d in
      let cs = calls_of acts in
      let many : length (shown acts) ≡ length (list.shown cs m) = ap length f.show ∙ length-map (list.shown cs m) padded in
      record {
        prefix = f.show ∙ ap (map padded) (z.prefix cs) ∙ ap (λ (n : ℕ). map padded (take n (all_solutions p))) (sym many);
        one-stands = many ∙ z.one-stands cs ∙ ap₂ (λ (i : ℕ) (b : Bool). i + cond b 1 0) (sym f.strike) (sym f.stand);
        carried = λ h. conflicts-of acts f ∙ z.carried cs (silent-of acts h) ∙ ap length (sym f.block);
        bounded = omega (arith, z.bounded cs, conflicts-of acts f, many);
        tallied = propagations-of acts f ∙ z.tallied cs ∙ sym f.set;
        creeping = rw (propagations-of acts f, conflicts-of acts f, f.strike) (z.creeping cs);
        within = λ h. leb-true _ _ (sym (tests acts f) ∙ z.accepted cs (⊎_map (λ e. e) (λ e. rw (conflicts-of acts f, f.strike) at e) h));
        cuts = λ x q. subst (MeetsCuts (variables p) x) (sym f.block) (z.cuts cs x q);
        ends = λ k. omega (arith, z.ends cs (f.keeps k), calls-many acts);
      }

  -- ---- one action more
  module _ (acts : List Action) (a : Action) (d : DoneFrom s (a ∷ acts)) where
    abbrev cs : List list.Call
    cs = earlier a (calls_of acts)

    acts-here : Acts a acts
    acts-here = acts-of a acts (follows acts d.1) d.0

    after : Follows (a ∷ acts)
    after = follows (a ∷ acts) d

    -- it is refused where the count has passed its limit before it
    test : admitted (walk cs m) ≡ leb (state_after s acts).propagations max_propagations
    test = acts-here.same ∙ tests acts (follows acts d.1)

    test-after : admitted (walk (calls_of (a ∷ acts)) m) ≡ leb (state_of (state_after s acts) a).propagations max_propagations
    unfolding state_after
    test-after = tests (a ∷ acts) after

    -- all solutions are shown
    shows-all : list.Completes (says (asked a) cs m) → shown (a ∷ acts) ≡ map padded (all_solutions p)
    unfolding calls_of
    shows-all h = after.show ∙ ap (map padded) (z.complete (asked a) cs h)

    -- the next call is not refused
    goes_on_lem : own.Within (state_of (state_after s acts) a) → admitted (walk (asked a ∷ cs) m) ≡ true
    unfolding calls_of
    goes_on_lem h = test-after ∙ le-leb _ _ h

    -- ---- that ends with the answer q, a verdict
    module _ (q : Ran) (here : state_of (state_after s acts) a ≡ q.state) (counts : (n k : ℕ) → Counts a n k → (q.count ≡ n) × (q.propagations ≡ k)) (v : ModelVerdict)
        (h : says (asked a) cs m ≡ verdict v) (r : q.verdict ≡ case_of v) where
      taken_here : admitted (walk cs m) ≡ true
      unfolding says
      taken_here = said-admitted (asked a) (walk cs m) (λ e. impossible (let f = sym h ∙ e in cc))

      counts_of : (q.count ≡ (walk (calls_of (a ∷ acts)) m).conflicts) × (q.propagations ≡ (walk (calls_of (a ∷ acts)) m).propagations)
      unfolding calls_of
      counts_of = let n = counts _ _ acts-here.tells.counts in (n.0 ∙ z.counted (asked a) cs taken_here, n.1 ∙ z.propagated (asked a) cs taken_here)

      counted : (q.count ≡ q.state.conflicts) × (q.propagations ≡ q.state.propagations)
      unfolding state_after
      counted =
          let n = counts_of in
          (n.0 ∙ sym (conflicts-of (a ∷ acts) after) ∙ ap (λ (x : Search). x.conflicts) here, n.1 ∙ sym (propagations-of (a ∷ acts) after) ∙ ap (λ (x : Search). x.propagations) here)

      -- an action e after it that takes turns and strikes nothing out
      repeats : ¬ (q.verdict ≡ said.GoOn) → admitted (walk (asked a ∷ cs) m) ≡ true → (e : Action) → list.Turns (asked e) → earlier e (calls_of (a ∷ acts)) ≡ calls_of (a ∷ acts) → Acts e (a ∷ acts) →
          (w : Result Ran Refusal) → ((x : Reply) → Replies e x → Says w x) → ((n k : ℕ) → Counts e n k → Counted w n k) → Again q w
      unfolding says calls_of case_of
      repeats n go e t i x w f g =
          let k = z.again (asked a) (asked e) cs v go h (λ j. n (r ∙ ap case_of j)) t in
          let y = subst (λ (ds : List list.Call). ActionTells (state_after s (a ∷ acts)) e (answer (asked e) (walk ds m))) i x.tells in
          let i-count = z.counted (asked e) (asked a ∷ cs) go ∙ ap (λ (y : model.Search). y.conflicts) k.1 ∙ sym counts_of.0 in
          let i-set = z.propagated (asked e) (asked a ∷ cs) go ∙ ap (λ (y : model.Search). y.propagations) k.1 ∙ sym counts_of.1 in
          again-by q w v (subst (Says w) k.0 (f _ y.replies)) _ _ (g _ _ y.counts) r i-count i-set

      again : ¬ (q.verdict ≡ said.GoOn) → admitted (walk (asked a ∷ cs) m) ≡ true → (e : Action) → own.Due false e → Does (state_of (state_after s acts) a) e → SaysAgain q e
      unfolding state_after earlier calls_of rounds case_of
      again n go (called c) t k = repeats n go (called c) (due-of false (called c) t) refl (acts-of (called c) (a ∷ acts) after k) (told c) (λ x i. i) (λ x j i. i)
      again n go (own.excluded e) t k = absurd t
      again n go (listed old new l) t k =
          let none = listing_none p m z y (asked a) cs v go h (λ j. n (r ∙ ap case_of j)) (state_of (state_after s acts) a) after.state old new l k in (
            repeats n go (listed old new l) (due-of false (listed old new l) t) (ap (λ (i : ℕ). rounds i (asked a ∷ cs)) none) (acts-of (listed old new l) (a ∷ acts) after k) (last_run l) (λ x i. i) (λ x j i. i),
            none,
          )

      says-after : SaysAfter p acts a q
      unfolding calls_of list.strikes
      says-after =
          record {
            position = λ us e.
                let g = case-solution v us (sym r ∙ e) in
                let many : strikes (a ∷ acts) ≡ list.strikes cs m = after.strike ∙ ap (λ (x : Reply). struck_in x + list.strikes cs m) h ∙ (unfold struck_in in zero-add (list.strikes cs m)) in
                (g.0, g.2, rw many (z.position (asked a) cs g.0 (h ∙ ap verdict g.1)));
            counted = counted;
            again = λ n w e t k. again n (goes_on_lem (subst own.Within (sym here) w)) e t (subst (λ (x : Search). Does x e) (sym here) k);
            complete = λ e. shows-all (inr (h ∙ ap verdict (case-plain v said.NoSolution tt (sym r ∙ e))));
            enough = λ n e. z.enough n (asked a) cs (h ∙ ap verdict (case-plain v said.OutOfBudget tt (sym r ∙ e)));
          }

    -- ---- what it gives in the end: that answer, or a refusal
    module _ (w : Result Ran Refusal) (replies : (r : Reply) → Replies a r → Says w r) (counts : (n k : ℕ) → Counts a n k → Counted w n k)
        (here : state_of (state_after s acts) a ≡ state_or (state_after s acts) w) where
      turn-taken : (u : Ran) → w ≡ Ok u → (v : ModelVerdict) → says (asked a) cs m ≡ verdict v → u.verdict ≡ case_of v → TurnAfter p (state_after s acts) acts a w
      unfolding state_or
      turn-taken u is v h r =
          let x = state_after s acts in
          let mine = here ∙ ap (state_or x) is in
          let tells-counts = λ (n k : ℕ) (c : Counts a n k). subst (λ (i : Result Ran Refusal). Counted i n k) is (counts n k c) in
          record {
            taken = ((λ e. impossible (cc)), λ b. clash (said-here v h) (test ∙ lt-leb _ _ b));
            answered = λ i. (u, is, says-after u mine tells-counts v h r);
          }
        where
          said-here : (v : ModelVerdict) → says (asked a) cs m ≡ verdict v → admitted (walk cs m) ≡ true
          said-here v h = unfold says in said-admitted (asked a) (walk cs m) (λ e. impossible (let f = sym h ∙ e in cc))

      turn-refused : (n : ℕ) → says (asked a) cs m ≡ refused n → w ≡ Err InvalidSearch → TurnAfter p (state_after s acts) acts a w
      unfolding says
      turn-refused n h is =
          let out = refused-only (asked a) (walk cs m) n h in
          record {
            taken = ((λ e. leb-false _ _ (sym test ∙ out)), λ b. is);
            answered = λ i. clash (test ∙ le-leb _ _ i) out;
          }

      by-reply : (i : Result Ran Refusal) → w ≡ i → (r : Reply) → says (asked a) cs m ≡ r → Says i r → TurnAfter p (state_after s acts) acts a w
      by-reply (Ok u) is (verdict v) h r = turn-taken u is v h r
      by-reply (Ok u) is (exclusion x) h r = absurd r
      by-reply (Ok u) is (refused n) h r = absurd r
      by-reply (Err d) is (verdict v) h r = absurd r
      by-reply (Err d) is (exclusion x) h r = absurd r
      by-reply (Err d) is (refused n) h r = turn-refused n h (is ∙ ap (λ (x : Refusal). Err x) r)

      turn-of : TurnAfter p (state_after s acts) acts a w
      unfolding says
      turn-of = by-reply w refl (says (asked a) cs m) refl (replies (says (asked a) cs m) acts-here.tells.replies)

  -- ---- a strike
  module _ (acts : List Action) (e : Result Excluded Refusal) (d : DoneFrom s (own.excluded e ∷ acts)) where
    struck-test : admitted (walk (calls_of acts) m) ≡ leb (state_after s acts).propagations max_propagations
    struck-test = tests acts (follows acts d.1)

    strike-taken : (u : Excluded) → e ≡ Ok u → (x : Exclusion) → says strike (calls_of acts) m ≡ exclusion x → u.answer ≡ out_of x → StrikeAfter p (state_after s acts) acts e
    unfolding says asked out_of earlier
    strike-taken u is x h q =
        let taken_here = said-admitted strike (walk (calls_of acts) m) (λ i. impossible (let f = sym h ∙ i in cc)) in
        record {
          taken = ((λ i. impossible (cc)), λ b. clash taken_here (struck-test ∙ lt-leb _ _ b));
          answered = λ w. (
            u,
            is,
            λ i. let k : exclusion x ≡ exclusion unsolved = sym h ∙ z.no-form (calls_of acts) taken_here (sym (follows acts d.1).stand ∙ i) in
                let j : x ≡ unsolved = cc in
                q ∙ ap out_of j,
          );
          complete = λ t j i. let k : t ≡ u = (let f = sym j ∙ is in cc) in
              shows-all acts (own.excluded e) d (inl (h ∙ ap exclusion (out-ended x (sym q ∙ ap (λ (y : Excluded). y.answer) (sym k) ∙ i))));
        }

    struck-refused : (n : ℕ) → says strike (calls_of acts) m ≡ refused n → e ≡ Err InvalidSearch → StrikeAfter p (state_after s acts) acts e
    unfolding says
    struck-refused n h is =
        let out = refused-only strike (walk (calls_of acts) m) n h in
        record {
          taken = ((λ i. leb-false _ _ (sym struck-test ∙ out)), λ b. is);
          answered = λ w. clash (struck-test ∙ le-leb _ _ w) out;
          complete = λ t j i. impossible (cc);
        }

    strike-by : (i : Result Excluded Refusal) → e ≡ i → (r : Reply) → says strike (calls_of acts) m ≡ r → Strikes i r → StrikeAfter p (state_after s acts) acts e
    strike-by (Ok u) is (verdict v) h q = absurd q
    strike-by (Ok u) is (exclusion x) h q = strike-taken u is x h q
    strike-by (Ok u) is (refused n) h q = absurd q
    strike-by (Err y) is (verdict v) h q = absurd q
    strike-by (Err y) is (exclusion x) h q = absurd q
    strike-by (Err y) is (refused n) h q = struck-refused n h (is ∙ ap (λ (x : Refusal). Err x) q)

    strike-of : StrikeAfter p (state_after s acts) acts e
    unfolding says asked earlier
    strike-of = strike-by e refl (says strike (calls_of acts) m) refl (acts-here acts (own.excluded e) d).tells.replies

  -- ---- a listing
  list_of : (acts : List Action) (old new : List ℤ) (r : Result Listed Refusal) → DoneFrom s (listed old new r ∷ acts) → ListAfter p (state_after s acts) acts old new r
  unfolding state_of calls_of asked earlier
  list_of acts old new r d =
      let f = follows acts d.1 in
      let a = listed old new r in
      list-after p m z y (calls_of acts) (state_after s acts) f.state old new r d.0 acts f.stand f.strike (λ e. (after acts a d).show ∙ ap (map padded) e)
      (λ e. leb-false _ _ (sym (test-after acts a d) ∙ e)) (turn-of acts a d (last_run r) (λ x i. i) (λ x k i. i) refl)

  listing-of : ListingOf p s
  listing-of = record { lists = lists_of; turn = λ acts c d. turn-of acts (called c) d (told c) (λ x i. i) (λ x k i. i) (unfold state_of in refl); strike = strike-of; list = list_of }

pub listings-hold-from : ListingsHoldFrom
listings-hold-from =
    record {
      opening = λ s a o h.
          let p = problem_from s in
          let f = fine-source s a in
          let x = fresh s a o h in
          record { state = x.state; accepted = x.done; listing = listing-of p x.state (open_problem p) x.start (listings-of-problems.lists p f) (place.listed p f) };
    }
