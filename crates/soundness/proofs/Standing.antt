-- Lists of calls from an opening, strikes among them: the solutions struck out are the first of all solutions, and those left come after them.
use Prim.Native.Nat.{ℕ, zero, suc, ◌+◌, ◌*◌, ◌≤◌, ◌<◌}
use native.Mathlib.Omega.{arith}
use mathlib.Core.Bool.{Bool, true, false, cond}
use mathlib.Core.List.{List, [], ◌∷◌, ◌++◌, append-nil, append_assoc}
use mathlib.Core.Logic.{◌⊎◌, inl, inr, ⊎_elim}
use mathlib.Core.Path.{◌≡◌, refl, sym, ap, ap₂, subst, ◌∙◌}
use lib.ListN.{length, take, length-append}
use Rattle.model_problems.specs.Ranges.{max_variables}
use Rattle.model_problems.specs.Problem.{Problem, variables}
use Rattle.model_walk.specs.Search.{Level, Status, undecided, infeasible, solved, Search, depth}
use Rattle.model_walk.specs.Conflict.{back_up}
use Rattle.model_problems.specs.Points.{Point, Before, FirstOf, all_solutions}
use Rattle.model_walk.specs.Step.{Verdict, go_on, no_solution, out_of_budget, solution, Outcome, lowers, with_status, again, step}
use Rattle.model_walk.specs.Trace.{advance}
use Rattle.model_claims.specs.Demand.{MeetsCuts, In}
use Rattle.model_walk.specs.Exclude.{Exclusion, ended, unsolved, Excluded, unchanged, exclude}
use Rattle.model_claims.specs.Enumeration.{Call, one_turn, all_turns, strike, turns, Reply, verdict, exclusion, refused, Answer, traced, excluded, taken, answered_by, answer, walk, says, blocks_of, NoRun, shown_in, stands_after, stands, shown, struck_in, strikes, Due, Ends, KeptUp, Turns, Ascending}
use Rattle.model_walk.specs.Validity.{admitted}
use Rattle.validity.specs.Valid.{Valid}
use Rattle.validity.proofs.Conflicts.{MeetsInequalities}
use Rattle.validity.proofs.Excluding.{exclude-valid}
use Rattle.validity.proofs.Steps.{impossible}
use Rattle.soundness.proofs.Sizes.{before-asym, not-before-itself, before-each}
use Rattle.soundness.proofs.Solutions.{solutions-ascending}
use Rattle.soundness.proofs.OneStep.{Open, Solved, shown-first}
use Rattle.soundness.proofs.Excluding.{strike-open, exclude-unsolved, exclude-ended, exclude-struck}
use Rattle.soundness.proofs.StepLists.{after_turns, valid-after, Reached, still, found, over, reached-after, list-conflicts, stepped, fixed-after, solved-again, cuts-append, state-next}
use Rattle.soundness.proofs.Taking.{Takes, takes, Leaves, turn-leaves}

-- ---- ascending lists
pub record Headed (z : Point) (left : List Point) : Type 0 where
  pub rest : List Point
  pub is : left ≡ z ∷ rest

-- the first is the head
head_first : (left : List Point) (z : Point) → Ascending left → FirstOf (λ x. In x left) z → Headed z left
head_first [] z a f = absurd f.solves
head_first (w ∷ ws) z a f = ⊎_elim (λ e. record { rest = ws; is = ap (λ (y : Point). y ∷ ws) (sym e) }) (λ n. absurd (later n (f.first w (inl refl)))) f.solves
  where
    later : In z ws → (w ≡ z) ⊎ Before z w → ⊥
    later n (inl e) = not-before-itself w z e (before-each w ws a.0 z n)
    later n (inr h) = before-asym z w h (before-each w ws a.0 z n)

ascending-right : (us vs : List Point) → Ascending (us ++ vs) → Ascending vs
ascending-right [] vs a = a
ascending-right (u ∷ us) vs a = ascending-right us vs a.1

nothing : (b : Bool) → ◌≡◌ {A = List Point} (cond b [] []) []
nothing true = refl
nothing false = refl

-- the solutions shown with one more, unless it stands already
list-more : (b : Bool) (vs gone left : List Point) (z : Point) → vs ≡ gone ++ take (cond b 1 0) left → Headed z left → vs ++ cond b [] (z ∷ []) ≡ gone ++ take 1 left
list-more true vs gone left z e h = rw append-nil e
list-more false vs gone left z e h = ap (λ (us : List Point). us ++ (z ∷ [])) (e ∙ append-nil gone) ∙ ap (λ (us : List Point). gone ++ take 1 us) (sym h.is)

-- ---- what is known after a list of calls
unfoldable pub is_solved : Status → Bool
is_solved undecided = false
is_solved infeasible = false
is_solved solved = true

abbrev IsSolution : Verdict → Type 0
IsSolution go_on = ⊥
IsSolution no_solution = ⊥
IsSolution out_of_budget = ⊥
IsSolution (solution x) = Unit {0}

due-false : (b : Bool) (c : Call) → Turns c → Due b c → b ≡ false
due-false false c t d = refl
due-false true one_turn t d = absurd d
due-false true all_turns t d = absurd d
due-false true strike t d = absurd t
due-false true (turns room) t d = absurd d

due-true : (b : Bool) → Due b strike → b ≡ true
due-true true d = refl
due-true false d = absurd d

unmarked : (b : Bool) → (b ≡ true → ⊥) → b ≡ false
unmarked true h = absurd (h refl)
unmarked false h = refl

module _ (p : Problem) (few : variables p ≤ max_variables) where
  -- state s after `calls` calls: whether a solution stands, how many were struck out, the solutions shown and the blocks given; no run was made if Silent,
  -- and the list was kept up if Kept
  pub record Stands (s : Search) (b : Bool) (strikes : ℕ) (vs : List Point) (blocks : List (List ℕ)) (Silent Kept : Type 0) (calls : ℕ) : Type 0 where
    pub gone : List Point
    pub left : List Point
    pub split : all_solutions p ≡ gone ++ left
    pub valid : Valid s
    pub reached : Reached p (λ x. In x left) (length gone) s
    pub many : strikes ≡ length gone
    pub mark : b ≡ is_solved s.status
    pub list : vs ≡ gone ++ take (cond b 1 0) left
    pub carried : Silent → s.conflicts ≡ length blocks
    pub cuts : (x : Point) → MeetsInequalities x p.constraints → MeetsCuts (variables p) x blocks
    pub kept : Kept → (calls ≤ 2 * (s.conflicts + length gone) + cond b 1 0) × ¬ (s.status ≡ infeasible)

  pub left-order : (gone left : List Point) → all_solutions p ≡ gone ++ left → Ascending left
  left-order gone left e = ascending-right gone left (subst Ascending e (solutions-ascending p))

  -- a state is marked at the first solution left
  pub solved-head : (gone left : List Point) → all_solutions p ≡ gone ++ left → (s : Search) → Solved p (λ x. In x left) (length gone) s → Headed (lowers s.core.deepest.box) left
  solved-head gone left e s d = head_first left (lowers s.core.deepest.box) (left-order gone left e) (shown-first p (λ x. In x left) (length gone) s _ (d, refl))

  -- after one call more, which answers a
  abbrev StandsAfter : Answer → Bool → ℕ → List Point → List (List ℕ) → Type 0 → Type 0 → ℕ → Type 0
  StandsAfter a b k vs bs Silent Kept calls =
      Stands a.state (stands_after a.reply b) (struck_in a.reply + k) (vs ++ cond b [] (shown_in a.reply)) (bs ++ a.blocks) Silent Kept (suc calls)

  module _ (s : Search) (b : Bool) (k : ℕ) (vs : List Point) (bs : List (List ℕ)) (Silent Kept : Type 0) (calls : ℕ) (w : Stands s b k vs bs Silent Kept calls) where
    abbrev Left : Point → Type 0
    Left x = In x w.left

    abbrev gone : ℕ
    gone = length w.gone

    left-ascending : Ascending w.left
    left-ascending = left-order w.gone w.left w.split

    -- ---- a call that changes nothing
    stays : (r : Reply) (count propagations : ℕ) (Silent₁ Kept₁ : Type 0) → stands_after r b ≡ b → struck_in r ≡ 0 → shown_in r ≡ [] → (Silent₁ → Silent) → (Kept₁ → ⊥) →
        StandsAfter (record { reply = r; count = count; propagations = propagations; blocks = []; state = s }) b k vs bs Silent₁ Kept₁ calls
    stays r count propagations Silent₁ Kept₁ e f g h n =
        record {
          gone = w.gone;
          left = w.left;
          split = w.split;
          valid = w.valid;
          reached = w.reached;
          many = omega (arith, f, w.many);
          mark = e ∙ w.mark;
          list = rw (g, nothing b, append-nil, e) w.list;
          carried = λ q. rw append-nil (w.carried (h q));
          cuts = λ x m. rw append-nil (w.cuts x m);
          kept = λ q. absurd (n q);
        }

    -- ---- a call that takes turns: the last of them, on state x, has verdict v and leaves state y
    module _ (x y : Search) where
      marked : (v : Verdict) → Leaves p few Left gone v x y → (b ≡ true → IsSolution v) → stands_after (verdict v) b ≡ is_solved y.status
      unfolding is_solved stands_after
      marked go_on l h = unmarked b h ∙ sym (ap is_solved l.0.status)
      marked no_solution l h = unmarked b h ∙ sym (ap is_solved l.status)
      marked out_of_budget l h = unmarked b h ∙ sym (ap is_solved l.0.status)
      marked (solution z) l h = sym (ap is_solved l.0.at.status)

      listed : (v : Verdict) → Leaves p few Left gone v x y → vs ++ cond b [] (shown_in (verdict v)) ≡ w.gone ++ take (cond (stands_after (verdict v) b) 1 0) w.left
      unfolding shown_in stands_after
      listed go_on l = rw (nothing b, append-nil) w.list
      listed no_solution l = rw (nothing b, append-nil) w.list
      listed out_of_budget l = rw (nothing b, append-nil) w.list
      listed (solution z) l = list-more b vs w.gone w.left z w.list (head_first w.left z left-ascending (shown-first p Left gone y z l))

      kept-up : (v : Verdict) (c : Call) → Leaves p few Left gone v x y → Turns c → s.conflicts ≤ x.conflicts → x.conflicts ≤ y.conflicts → Due b c × ¬ (Ends (verdict v)) × Kept →
          (suc calls ≤ 2 * (y.conflicts + gone) + cond (stands_after (verdict v) b) 1 0) × ¬ (y.status ≡ infeasible)
      unfolding stands_after
      kept-up go_on c l t g h q = let e = (w.kept q.2).0 in (omega (arith, l.1), λ n. impossible (let z = l.0.status in cc))
      kept-up no_solution c l t g h q = absurd (q.1 (inl (inr refl)))
      kept-up out_of_budget c l t g h q = absurd (q.1 (inr (inl refl)))
      kept-up (solution z) c l t g h q =
          let e = (w.kept q.2).0 in
          let f : ◌≡◌ {A = ℕ} (cond b 1 0) 0 = ap (λ (i : Bool). cond i 1 0) (due-false b c t q.0) in
          (omega arith, λ n. impossible (let z = l.0.at.status in cc))

    -- a solution that stands is shown again
    solved-says : (t : ℕ) → Reached p Left gone s → b ≡ true → IsSolution (step (after_turns t s)).verdict
    unfolding is_solved again
    solved-says t (still o) h = impossible (let e = sym h ∙ w.mark ∙ ap is_solved o.status in cc)
    solved-says t (over o) h = impossible (let e = sym h ∙ w.mark ∙ ap is_solved o.status in cc)
    solved-says t (found d) h =
        let e = solved-again p Left gone s d in
        let f = fixed-after t s (ap (λ (o : Outcome). o.state) e) in
        subst IsSolution (sym (ap (λ (z : Search). (step z).verdict) f ∙ ap (λ (o : Outcome). o.verdict) e)) tt

    turned : (c : Call) (a : Answer) (Silent₁ : Type 0) → Takes p few Left gone c s a → Turns c → (Silent₁ → Silent × NoRun (c ∷ [])) →
        StandsAfter a b k vs bs Silent₁ (Due b c × ¬ (Ends a.reply) × Kept) calls
    unfolding struck_in
    turned c a Silent₁ q d n =
        let x = after_turns q.t s in
        let y = after_turns (suc q.t) s in
        let v = (step x).verdict in
        let r = reached-after p Left gone q.t s w.reached in
        let l : Leaves p few Left gone v x y = subst (Leaves p few Left gone v x) (sym (state-next q.t s)) (turn-leaves p few Left gone x r) in
        let before = list-conflicts p Left gone q.t s w.reached in
        let total = list-conflicts p Left gone (suc q.t) s w.reached in
        rw (q.reply, q.state)
        (record {
          gone = w.gone;
          left = w.left;
          split = w.split;
          valid = valid-after (suc q.t) s w.valid;
          reached = reached-after p Left gone (suc q.t) s w.reached;
          many = omega (arith, w.many);
          mark = marked x y v l (solved-says q.t w.reached);
          list = listed x y v l;
          carried = λ i. omega (arith, total, w.carried (n i).0, length-append bs a.blocks, ap length (q.blocks (n i).1));
          cuts = λ z m. cuts-append (variables p) z bs a.blocks (w.cuts z m) (q.cuts z m);
          kept = kept-up x y v c l d (omega arith) (omega (arith, (stepped p Left gone x r).blocks, ap (λ (z : Search). z.conflicts) (state-next q.t s)));
        })

    -- ---- a strike
    -- a solution that a decision led to
    struck-out : (Silent₁ : Type 0) (d : Solved p Left gone s) (o : Level) (ls : List Level) → s.core.outer ≡ o ∷ ls → (Silent₁ → Silent) →
        StandsAfter (excluded (exclude s)) b k vs bs Silent₁ (Due b strike × ¬ (Ends (exclusion (exclude s).answer)) × Kept) calls
    unfolding excluded struck_in shown_in stands_after is_solved with_status
    struck-out Silent₁ d o ls e n =
        let u = lowers s.core.deepest.box in
        let h = solved-head w.gone w.left w.split s d in
        let a = subst Ascending h.is left-ascending in
        let x = exclude-struck s o ls d.at.status e in
        let more = length-append w.gone (u ∷ []) in
        let stood : b ≡ true = w.mark ∙ ap is_solved d.at.status in
        let goes = strike-open p u (λ y. In y (u ∷ h.rest)) (λ y. In y h.rest) (λ y m. m) (λ y m. inr m) (λ y m. before-each u h.rest a.0 y m) gone s o ls
        (subst (λ (us : List Point). Solved p (λ y. In y us) gone s) h.is d) refl e in
        let v : Valid (exclude s).state = exclude-valid s w.valid in
        let list : vs ≡ w.gone ++ (u ∷ []) = w.list ∙ ap₂ (λ (i : Bool) (us : List Point). w.gone ++ take (cond i 1 0) us) stood h.is in
        subst (λ (z : Excluded). StandsAfter (excluded z) b k vs bs Silent₁ (Due b strike × ¬ (Ends (exclusion z.answer)) × Kept) calls) (sym x)
        (record {
          gone = w.gone ++ (u ∷ []);
          left = h.rest;
          split = w.split ∙ ap (λ (us : List Point). w.gone ++ us) h.is ∙ sym (append_assoc w.gone (u ∷ []) h.rest);
          valid = subst (λ (z : Excluded). Valid z.state) x v;
          reached = still (subst (λ (i : ℕ). Open p (λ y. In y h.rest) i (with_status s (back_up (depth s.core) s.core) undecided)) (omega (arith, more)) goes);
          many = omega (arith, w.many, more);
          mark = refl;
          list = rw (nothing b, append-nil, append-nil) list;
          carried = λ i. rw append-nil (w.carried (n i));
          cuts = λ y m. rw append-nil (w.cuts y m);
          kept = λ q. (let f = (w.kept q.2).0 in omega (arith, more, small b), λ i. impossible (cc));
        })
      where
        small : (i : Bool) → cond i 1 0 ≤ 1
        small true = omega arith
        small false = omega arith

    unstruck : (x : Exclusion) (Silent₁ : Type 0) → exclude s ≡ unchanged x s → stands_after (exclusion x) b ≡ b → struck_in (exclusion x) ≡ 0 → (Silent₁ → Silent) →
        (Due b strike × ¬ (Ends (exclusion x)) × Kept → ⊥) → StandsAfter (excluded (exclude s)) b k vs bs Silent₁ (Due b strike × ¬ (Ends (exclusion (exclude s).answer)) × Kept) calls
    unfolding excluded unchanged shown_in
    unstruck x Silent₁ e f g n i =
        subst (λ (z : Excluded). StandsAfter (excluded z) b k vs bs Silent₁ (Due b strike × ¬ (Ends (exclusion z.answer)) × Kept) calls) (sym e)
        (stays (exclusion x) s.conflicts s.propagations Silent₁ (Due b strike × ¬ (Ends (exclusion x)) × Kept) f g refl n i)

    by-depth : (Silent₁ : Type 0) (ls : List Level) → Solved p Left gone s → s.core.outer ≡ ls → (Silent₁ → Silent) →
        StandsAfter (excluded (exclude s)) b k vs bs Silent₁ (Due b strike × ¬ (Ends (exclusion (exclude s).answer)) × Kept) calls
    unfolding stands_after struck_in
    by-depth Silent₁ [] d e n = unstruck ended Silent₁ (exclude-ended s d.at.status e) refl refl n (λ q. q.1 (inl (inl refl)))
    by-depth Silent₁ (o ∷ ls) d e n = struck-out Silent₁ d o ls e n

    by-status : (Silent₁ : Type 0) → Reached p Left gone s → (Silent₁ → Silent) →
        StandsAfter (excluded (exclude s)) b k vs bs Silent₁ (Due b strike × ¬ (Ends (exclusion (exclude s).answer)) × Kept) calls
    unfolding stands_after struck_in is_solved
    by-status Silent₁ (still o) n =
        unstruck unsolved Silent₁ (exclude-unsolved s (inl o.status)) refl refl n (λ q. impossible (let e = sym (due-true b q.0) ∙ w.mark ∙ ap is_solved o.status in cc))
    by-status Silent₁ (over o) n =
        unstruck unsolved Silent₁ (exclude-unsolved s (inr o.status)) refl refl n (λ q. impossible (let e = sym (due-true b q.0) ∙ w.mark ∙ ap is_solved o.status in cc))
    by-status Silent₁ (found d) n = by-depth Silent₁ s.core.outer d refl n

    -- ---- every call
    pub one_more : (c : Call) (Silent₁ : Type 0) → (Silent₁ → Silent × NoRun (c ∷ [])) → StandsAfter (taken c s) b k vs bs Silent₁ (Due b c × ¬ (Ends (taken c s).reply) × Kept) calls
    one_more one_turn Silent₁ n = turned one_turn (taken one_turn s) Silent₁ (takes p few Left gone one_turn s tt w.valid w.reached) tt n
    one_more all_turns Silent₁ n = turned all_turns (taken all_turns s) Silent₁ (takes p few Left gone all_turns s tt w.valid w.reached) tt n
    one_more strike Silent₁ n = unfold taken excluded in by-status Silent₁ w.reached (λ i. (n i).0)
    one_more (turns (suc t)) Silent₁ n =
        let h : 0 < suc t = omega arith in turned (turns (suc t)) (taken (turns (suc t)) s) Silent₁ (takes p few Left gone (turns (suc t)) s h w.valid w.reached) h n
    one_more (turns zero) Silent₁ n =
        unfold taken traced advance in stays (verdict go_on) s.conflicts s.propagations Silent₁ (Due b (turns zero) × ¬ (Ends (verdict go_on)) × Kept) (unfold stands_after in refl) (unfold struck_in in refl) (unfold shown_in in refl) (λ i. (n i).0) (λ q. no_room b q.0)
      where
        no_room : (i : Bool) → Due i (turns zero) → ⊥
        no_room true d = d
        no_room false d = omega arith

-- ---- lists
pub answered : (c : Call) (s : Search) → admitted s ≡ true → answer c s ≡ taken c s
unfolding answer answered_by
answered c s e = rw e

pub refusing : (c : Call) (s : Search) → admitted s ≡ false → answer c s ≡ answered_by false c s
unfolding answer
refusing c s e = rw e

-- a call says so exactly where it is refused
pub said-admitted : (c : Call) (s : Search) → ¬ ((answer c s).reply ≡ refused 9) → admitted s ≡ true
unfolding answer answered_by
said-admitted c s = by (admitted s)
  where
    by : (t : Bool) → ¬ ((answered_by t c s).reply ≡ refused 9) → t ≡ true
    by true n = refl
    by false n = absurd (n refl)

pub refused-only : (c : Call) (s : Search) (n : ℕ) → (answer c s).reply ≡ refused n → admitted s ≡ false
unfolding answer answered_by taken traced excluded
refused-only c s n = by (admitted s)
  where
    never : (c : Call) → ¬ ((taken c s).reply ≡ refused n)
    never one_turn e = impossible (cc)
    never all_turns e = impossible (cc)
    never strike e = impossible (cc)
    never (turns room) e = impossible (cc)

    by : (t : Bool) → (answered_by t c s).reply ≡ refused n → t ≡ false
    by true e = absurd (never c e)
    by false e = refl

no-run-more : (c : Call) (cs : List Call) → NoRun (c ∷ cs) → NoRun cs × NoRun (c ∷ [])
no-run-more one_turn cs h = (h, tt)
no-run-more all_turns cs h = absurd h
no-run-more strike cs h = (h, tt)
no-run-more (turns room) cs h = (h, tt)

module _ (p : Problem) (few : variables p ≤ max_variables) (m : Search) where
  abbrev pub Standing : List Call → Type 0
  Standing cs = Stands p few (walk cs m) (stands cs m) (strikes cs m) (shown cs m) (blocks_of cs m) (NoRun cs) (KeptUp cs m) (length cs)

  pub standing : Stands p few m false 0 [] [] (Unit {0}) (Unit {0}) 0 → (cs : List Call) → Standing cs
  unfolding walk says stands strikes shown blocks_of answer
  standing w [] = w
  standing w (c ∷ cs) = by (standing w cs) (admitted (walk cs m))
    where
      by : Standing cs → (t : Bool) → StandsAfter p few (answered_by t c (walk cs m)) (stands cs m) (strikes cs m) (shown cs m) (blocks_of cs m) (NoRun (c ∷ cs)) (Due (stands cs m) c × ¬ (Ends (answered_by t c (walk cs m)).reply) × KeptUp cs m) (length cs)
      by r true = unfold answered_by in one_more p few (walk cs m) (stands cs m) (strikes cs m) (shown cs m) (blocks_of cs m) (NoRun cs) (KeptUp cs m) (length cs) r c (NoRun (c ∷ cs)) (no-run-more c cs)
      -- a refusal changes nothing, and ends a list that is kept up
      by r false =
          unfold answered_by stands_after struck_in shown_in in stays p few (walk cs m) (stands cs m) (strikes cs m) (shown cs m) (blocks_of cs m) (NoRun cs) (KeptUp cs m) (length cs) r
          (refused 9) 0 0 (NoRun (c ∷ cs)) (Due (stands cs m) c × ¬ (Ends (refused 9)) × KeptUp cs m) refl refl refl (λ h. (no-run-more c cs h).0) (λ q. q.1 (inr (inr refl)))
