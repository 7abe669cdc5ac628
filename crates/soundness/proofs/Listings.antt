-- N4's claim, of every list of calls from a fresh opening of an acceptable problem.
use Prim.Native.Nat.{ℕ, zero, suc, ◌+◌, ◌*◌, ◌≤◌, ◌<◌}
use native.Mathlib.Omega.{arith}
use mathlib.Core.Bool.{Bool, true, false, cond}
use mathlib.Core.List.{List, [], ◌∷◌, ◌++◌, append-nil}
use mathlib.Core.Logic.{inl, inr}
use mathlib.Core.Option.{some}
use mathlib.Core.Path.{◌≡◌, refl, sym, ap, subst, ◌∙◌}
use lib.ListN.{length, take, get_elem?, length-append}
use Rattle.model_problems.specs.Ranges.{max_variables, max_propagations}
use Rattle.model_problems.specs.Problem.{Problem, variables}
use Rattle.model_files.specs.File.{problem_in}
use Rattle.model_walk.specs.Search.{Level, infeasible, Search, open_problem}
use Rattle.model_problems.specs.Points.{Point, Solution, points, all_solutions}
use Rattle.model_walk.specs.Step.{Verdict, go_on, no_solution, out_of_budget, solution, step, lowers}
use Rattle.model_walk.specs.Trace.{advance}
use Rattle.model_walk.specs.Move.{slack}
use Rattle.model_walk.specs.Validity.{admitted}
use Rattle.model_walk.specs.Propagations.{bounds_set}
use Rattle.model_acceptance.specs.Acceptable.{Acceptable}
use Rattle.model_claims.specs.Demand.{In}
use Rattle.model_walk.specs.Exclude.{Excluded, ended, unsolved, unchanged, exclude}
use Rattle.model_claims.specs.Enumeration.{Call, one_turn, all_turns, strike, turns, verdict, exclusion, Answer, traced, excluded, taken, answered_by, answer, walk, says, stands, shown, strikes, turns_of, set_by, set_in, Modest, Completes, Ends, Turns, Ascending, Enumerates, ListingsOfProblems, Listings}
use Rattle.format.proofs.AcceptedShape as Small
use Rattle.lists.proofs.Bools.{true_of}
use Rattle.validity.proofs.Boxes.{fixed-only}
use Rattle.validity.proofs.Steps.{impossible}
use Rattle.soundness.proofs.Sizes.{not-before-itself, before-each}
use Rattle.soundness.proofs.Solutions.{solutions-every, solutions-ascending}
use Rattle.soundness.proofs.Remaining.{Remains}
use Rattle.soundness.proofs.Opened.{meets-inequalities}
use Rattle.soundness.proofs.OneStep.{Solved, open-same}
use Rattle.soundness.proofs.Runs.{ProblemFits, opened-open}
use Rattle.soundness.proofs.Demand.{fits-of, sized_of, acceptable-of, opened-valid, opened-conflicts, opened-propagations}
use Rattle.soundness.proofs.Tallies.{turns-set, few-set, set-admitted}
use Rattle.soundness.proofs.Excluding.{some-room, exclude-unsolved, exclude-struck, exclude-set}
use Rattle.soundness.proofs.StepLists.{after_turns, reached-few, reached-creeps, repeats-reached, Reached, still, found, over, reached-after, valid-after, step-tells, state-next, fixed-after}
use Rattle.soundness.proofs.Taking.{takes, Leaves, turn-leaves}
use Rattle.soundness.proofs.Standing.{Headed, is_solved, Stands, left-order, solved-head, answered, said-admitted, refused-only, Standing, standing}

-- ---- lists
prefix-take : (n : ℕ) (us vs : List Point) → us ++ take n vs ≡ take (length (us ++ take n vs)) (us ++ vs)
prefix-take n (u ∷ us) vs = ap (λ (ws : List Point). u ∷ ws) (prefix-take n us vs)
prefix-take zero [] vs = refl
prefix-take (suc n) [] [] = refl
prefix-take (suc n) [] (v ∷ vs) = ap (λ (ws : List Point). v ∷ ws) (prefix-take n [] vs)

at-end : (us vs : List Point) (z : Point) → get_elem? (us ++ (z ∷ vs)) (length us) ≡ some z
at-end [] vs z = refl
at-end (u ∷ us) vs z = at-end us vs z

bit : (b : Bool) → cond b 1 0 ≤ 1
bit true = omega arith
bit false = omega arith

none_in : (us : List Point) → ((x : Point) → In x us → ⊥) → us ≡ []
none_in [] f = refl
none_in (u ∷ us) f = absurd (f u (inl refl))

module _ (p : Problem) (sized : Small.Sizes p) (fits : ProblemFits p) (m : Search) (start : Stands p sized.few-variables m false 0 [] [] (Unit {0}) (Unit {0}) 0) (unset : m.propagations ≡ 0) where
  abbrev few : variables p ≤ max_variables
  few = sized.few-variables

  st : (cs : List Call) → Standing p few m cs
  st cs = standing p few m start cs

  says-taken : (c : Call) (cs : List Call) → admitted (walk cs m) ≡ true → says c cs m ≡ (taken c (walk cs m)).reply
  unfolding says
  says-taken c cs h = ap (λ (a : Answer). a.reply) (answered c (walk cs m) h)

  walk-taken : (c : Call) (cs : List Call) → admitted (walk cs m) ≡ true → walk (c ∷ cs) m ≡ (taken c (walk cs m)).state
  unfolding walk
  walk-taken c cs h = ap (λ (a : Answer). a.state) (answered c (walk cs m) h)

  -- a call that says a verdict was not refused
  spoken : (c : Call) (cs : List Call) (v : Verdict) → says c cs m ≡ verdict v → admitted (walk cs m) ≡ true
  unfolding says
  spoken c cs v e = said-admitted c (walk cs m) (λ h. impossible (let f = sym e ∙ h in cc))

  -- ---- the last turn of a call that gives a verdict
  abbrev LeftAfter : List Call → Point → Type 0
  LeftAfter cs x = In x (st cs).left

  record Last (c : Call) (cs : List Call) (v : Verdict) : Type 0 where
    t : ℕ
    verdict : (step (after_turns t (walk cs m))).verdict ≡ v
    state : walk (c ∷ cs) m ≡ after_turns (suc t) (walk cs m)
    leaves : Leaves p few (LeftAfter cs) (length (st cs).gone) v (after_turns t (walk cs m)) (walk (c ∷ cs) m)

  last_of : (c : Call) (cs : List Call) (v : Verdict) → Turns c → says c cs m ≡ verdict v → Last c cs v
  last_of c cs v h e =
      let s = walk cs m in
      let w = st cs in
      let k = spoken c cs v e in
      let q = takes p few (LeftAfter cs) (length w.gone) c s h w.valid w.reached in
      let x = after_turns q.t s in
      let own : verdict (step x).verdict ≡ verdict v = sym q.reply ∙ sym (says-taken c cs k) ∙ e in
      let said : (step x).verdict ≡ v = cc in
      let state = walk-taken c cs k ∙ q.state in
      let here : (step x).state ≡ walk (c ∷ cs) m = sym (state-next q.t s) ∙ sym state in
      let l = turn-leaves p few (LeftAfter cs) (length w.gone) x (reached-after p (LeftAfter cs) (length w.gone) q.t s w.reached) in
      record {
        t = q.t;
        verdict = said;
        state = state;
        leaves = subst (Leaves p few (LeftAfter cs) (length w.gone) v x) here (subst (λ (u : Verdict). Leaves p few (LeftAfter cs) (length w.gone) u x (step x).state) said l);
      }

  turns-of : (c : Call) (cs : List Call) (v : Verdict) → says c cs m ≡ verdict v → ¬ (v ≡ go_on) → Turns c
  unfolding taken traced excluded advance
  turns-of one_turn cs v e n = tt
  turns-of all_turns cs v e n = tt
  turns-of strike cs v e n = impossible (let f = sym (says-taken strike cs (spoken strike cs v e)) ∙ e in cc)
  turns-of (turns zero) cs v e n = let f = sym (says-taken (turns zero) cs (spoken (turns zero) cs v e)) ∙ e in absurd (n (cc))
  turns-of (turns (suc t)) cs v e n = omega arith

  last-said : (c : Call) (cs : List Call) (v : Verdict) → says c cs m ≡ verdict v → ¬ (v ≡ go_on) → Last c cs v
  last-said c cs v e n = last_of c cs v (turns-of c cs v e n) e

  -- ---- the claims
  headed : (c : Call) (cs : List Call) (x : Point) → says c cs m ≡ verdict (solution x) → Headed x (st cs).left
  headed c cs x e =
      let l = last-said c cs (solution x) e (λ n. impossible (cc)) in
      subst (λ (z : Point). Headed z (st cs).left) (sym l.leaves.1) (solved-head p few (st cs).gone (st cs).left (st cs).split (walk (c ∷ cs) m) l.leaves.0)

  position : (c : Call) (cs : List Call) (x : Point) → says c cs m ≡ verdict (solution x) → get_elem? (all_solutions p) (strikes cs m) ≡ some x
  position c cs x e =
      let w = st cs in
      let h = headed c cs x e in
      rw (w.split, w.many, h.is) (at-end w.gone h.rest x)

  -- where no solution stands
  unmarked : (cs : List Call) → stands cs m ≡ false → Reached p (LeftAfter cs) (length (st cs).gone) (walk cs m) → exclude (walk cs m) ≡ unchanged unsolved (walk cs m)
  unfolding is_solved
  unmarked cs h (still o) = exclude-unsolved (walk cs m) (inl o.status)
  unmarked cs h (over o) = exclude-unsolved (walk cs m) (inr o.status)
  unmarked cs h (found o) = impossible (let e = sym h ∙ (st cs).mark ∙ ap is_solved o.at.status in cc)

  no-form : (cs : List Call) → admitted (walk cs m) ≡ true → stands cs m ≡ false → says strike cs m ≡ exclusion unsolved
  unfolding taken excluded unchanged
  no-form cs a h = says-taken strike cs a ∙ ap (λ (x : Excluded). exclusion x.answer) (unmarked cs h (st cs).reached)

  -- the solutions shown: those struck out and the one that stands
  some-shown : (b : Bool) (cs : List Call) → b ≡ is_solved (walk cs m).status → Reached p (LeftAfter cs) (length (st cs).gone) (walk cs m) →
      (length (take (cond b 1 0) (st cs).left) ≡ cond b 1 0) × ((walk cs m).conflicts + length (st cs).gone + cond b 1 0 ≤ points p)
  unfolding is_solved
  some-shown false cs e r = (refl, omega (arith, reached-few p (LeftAfter cs) (length (st cs).gone) (walk cs m) r))
  some-shown true cs e (still o) = impossible (let f = e ∙ ap is_solved o.status in cc)
  some-shown true cs e (over o) = impossible (let f = e ∙ ap is_solved o.status in cc)
  some-shown true cs e (found d) =
      let h = solved-head p few (st cs).gone (st cs).left (st cs).split (walk cs m) d in
      (rw h.is, omega (arith, d.at.total, some-room p (LeftAfter cs) d.at.room (walk cs m).core d.at.sound))

  shown-length : (cs : List Call) → length (shown cs m) ≡ length (st cs).gone + cond (stands cs m) 1 0
  shown-length cs =
      let w = st cs in
      omega (arith, ap length w.list, length-append w.gone (take (cond (stands cs m) 1 0) w.left), (some-shown (stands cs m) cs w.mark w.reached).0)

  -- the counts in an answer are those of its state
  record Counts (a : Answer) : Type 0 where
    count : a.count ≡ a.state.conflicts
    propagations : a.propagations ≡ a.state.propagations

  turns-count : (c : Call) (cs : List Call) → Turns c → Counts (taken c (walk cs m))
  turns-count c cs h =
      let w = st cs in
      let s = walk cs m in
      let q = takes p few (LeftAfter cs) (length w.gone) c s h w.valid w.reached in
      let t = step-tells (after_turns q.t s) (valid-after q.t s w.valid) in
      let e = sym (state-next q.t s) ∙ sym q.state in
      record { count = q.count ∙ t.count ∙ ap (λ (x : Search). x.conflicts) e; propagations = q.propagations ∙ t.propagations ∙ ap (λ (x : Search). x.propagations) e }

  taken-count : (c : Call) (cs : List Call) → Counts (taken c (walk cs m))
  taken-count one_turn cs = turns-count one_turn cs tt
  taken-count all_turns cs = turns-count all_turns cs tt
  taken-count strike cs = unfold taken excluded in record { count = refl; propagations = refl }
  taken-count (turns zero) cs = unfold taken traced advance in record { count = refl; propagations = refl }
  taken-count (turns (suc t)) cs = turns-count (turns (suc t)) cs (omega arith)

  counts : (c : Call) (cs : List Call) → admitted (walk cs m) ≡ true → Counts (answer c (walk cs m))
  counts c cs h = subst Counts (sym (answered c (walk cs m) h)) (taken-count c cs)

  -- a verdict is said again
  again : (c d : Call) (cs : List Call) (v : Verdict) → admitted (walk (c ∷ cs) m) ≡ true → says c cs m ≡ verdict v → ¬ (v ≡ go_on) → Turns d → (says d (c ∷ cs) m ≡ verdict v) × (walk (d ∷ c ∷ cs) m ≡ walk (c ∷ cs) m)
  again c d cs v a e n h =
      let w = st cs in
      let l = last-said c cs v e n in
      let x = after_turns l.t (walk cs m) in
      let r = repeats-reached p (LeftAfter cs) (length w.gone) x (reached-after p (LeftAfter cs) (length w.gone) l.t (walk cs m) w.reached) (λ g. n (sym l.verdict ∙ g)) in
      let y = walk (c ∷ cs) m in
      let here : y ≡ (step x).state = l.state ∙ state-next l.t (walk cs m) in
      let rests : (step y).state ≡ y = rw here r.state in
      let z = st (c ∷ cs) in
      let q = takes p few (LeftAfter (c ∷ cs)) (length z.gone) d y h z.valid z.reached in
      let same : (t : ℕ) → after_turns t y ≡ y = λ t. fixed-after t y rests in (
        says-taken d (c ∷ cs) a ∙ q.reply ∙ ap (λ (s : Search). verdict (step s).verdict) (same q.t ∙ here) ∙ ap verdict (r.verdict ∙ l.verdict),
        walk-taken d (c ∷ cs) a ∙ q.state ∙ same (suc q.t),
      )

  -- ---- 'ended' and 'none'
  -- at depth 0 the solution that stands is the only one left
  only-left : (cs : List Call) → Solved p (LeftAfter cs) (length (st cs).gone) (walk cs m) → (walk cs m).core.outer ≡ [] → (st cs).left ≡ lowers (walk cs m).core.deepest.box ∷ []
  only-left cs d e =
      let w = st cs in
      let c = (walk cs m).core in
      let h = solved-head p few w.gone w.left w.split (walk cs m) d in
      let order = subst Ascending h.is (left-order p few w.gone w.left w.split) in
      let alone : (y : Point) → In y h.rest → ⊥ = λ y n.
      let r = d.at.sound.cover y (subst (In y) (sym h.is) (inr n)) in
      let i = fixed-only c.deepest.box y d.finishes.fixed (subst (λ (ls : List Level). Remains p y c.deepest ls) e r) in
      not-before-itself (lowers c.deepest.box) y (sym i) (before-each (lowers c.deepest.box) h.rest order.0 y n) in
      h.is ∙ ap (λ (us : List Point). lowers c.deepest.box ∷ us) (none_in h.rest alone)

  shown-ended : (cs : List Call) → Solved p (LeftAfter cs) (length (st cs).gone) (walk cs m) → (walk cs m).core.outer ≡ [] → shown (strike ∷ cs) m ≡ all_solutions p
  unfolding shown is_solved
  shown-ended cs d e =
      let w = st cs in
      let stood : stands cs m ≡ true = w.mark ∙ ap is_solved d.at.status in
      rw (stood, append-nil) (w.list ∙ rw (stood, only-left cs d e) refl ∙ sym (w.split ∙ ap (λ (us : List Point). w.gone ++ us) (only-left cs d e)))

  by-depth : (cs : List Call) (ls : List Level) → Solved p (LeftAfter cs) (length (st cs).gone) (walk cs m) → (walk cs m).core.outer ≡ ls → (taken strike (walk cs m)).reply ≡ exclusion ended → shown (strike ∷ cs) m ≡ all_solutions p
  unfolding taken excluded
  by-depth cs [] d e f = shown-ended cs d e
  by-depth cs (o ∷ ls) d e f = impossible (let g = exclude-struck (walk cs m) o ls d.at.status e in cc)

  strike-ended : (cs : List Call) → Reached p (LeftAfter cs) (length (st cs).gone) (walk cs m) → (taken strike (walk cs m)).reply ≡ exclusion ended → shown (strike ∷ cs) m ≡ all_solutions p
  unfolding taken excluded unchanged
  strike-ended cs (still o) f = impossible (let g = exclude-unsolved (walk cs m) (inl o.status) in cc)
  strike-ended cs (over o) f = impossible (let g = exclude-unsolved (walk cs m) (inr o.status) in cc)
  strike-ended cs (found d) f = by-depth cs (walk cs m).core.outer d refl f

  ended-complete : (c : Call) (cs : List Call) → (taken c (walk cs m)).reply ≡ exclusion ended → shown (c ∷ cs) m ≡ all_solutions p
  unfolding taken traced
  ended-complete one_turn cs f = impossible (cc)
  ended-complete all_turns cs f = impossible (cc)
  ended-complete strike cs f = strike-ended cs (st cs).reached f
  ended-complete (turns room) cs f = impossible (cc)

  -- no solution is left
  none-complete : (cs : List Call) → (walk cs m).status ≡ infeasible → Reached p (LeftAfter cs) (length (st cs).gone) (walk cs m) → shown cs m ≡ all_solutions p
  none-complete cs e (still o) = impossible (let f = o.status in cc)
  none-complete cs e (found o) = impossible (let f = o.at.status in cc)
  none-complete cs e (over o) =
      let w = st cs in
      let f = none_in w.left o.none_left in
      w.list ∙ ap (λ (us : List Point). w.gone ++ us) (ap (take (cond (stands cs m) 1 0)) f ∙ take_none (cond (stands cs m) 1 0) ∙ sym f) ∙ sym w.split
    where
      take_none : (n : ℕ) → ◌≡◌ {A = List Point} (take n []) []
      take_none zero = refl
      take_none (suc n) = refl

  complete : (c : Call) (cs : List Call) → Completes (says c cs m) → shown (c ∷ cs) m ≡ all_solutions p
  complete c cs (inl e) = ended-complete c cs (sym (says-taken c cs (unfold says in said-admitted c (walk cs m) (λ h. impossible (let f = sym e ∙ h in cc)))) ∙ e)
  complete c cs (inr e) = none-complete (c ∷ cs) (last-said c cs no_solution e (λ n. impossible (cc))).leaves.status (st (c ∷ cs)).reached

  -- ---- a list kept up
  kept-few : (cs : List Call) (n : ℕ) → n ≤ 2 * ((walk cs m).conflicts + length (st cs).gone) + cond (stands cs m) 1 0 → ¬ ((walk cs m).status ≡ infeasible) →
      Reached p (LeftAfter cs) (length (st cs).gone) (walk cs m) → n < 2 * points p
  kept-few cs n h i (still o) = omega (arith, h, o.total, some-room p (LeftAfter cs) o.room (walk cs m).core o.sound, bit (stands cs m))
  kept-few cs n h i (found d) = omega (arith, h, d.at.total, some-room p (LeftAfter cs) d.at.room (walk cs m).core d.at.sound, bit (stands cs m))
  kept-few cs n h i (over o) = absurd (i o.status)

  -- ---- N5's count
  turns-taken : (c : Call) (cs : List Call) → Turns c → (taken c (walk cs m)).state.propagations ≡ bounds_set (turns_of c (walk cs m)) (walk cs m) + (walk cs m).propagations
  turns-taken c cs h =
      let w = st cs in
      let q = takes p few (LeftAfter cs) (length w.gone) c (walk cs m) h w.valid w.reached in
      rw (q.state, q.many) (omega (arith, turns-set (suc q.t) (walk cs m) w.valid))

  taken-set : (c : Call) (cs : List Call) → (taken c (walk cs m)).state.propagations ≡ bounds_set (turns_of c (walk cs m)) (walk cs m) + (walk cs m).propagations
  unfolding taken turns_of bounds_set
  taken-set one_turn cs = turns-taken one_turn cs tt
  taken-set all_turns cs = turns-taken all_turns cs tt
  taken-set strike cs = unfold excluded in omega (arith, exclude-set (walk cs m))
  taken-set (turns zero) cs = unfold traced advance in omega arith
  taken-set (turns (suc t)) cs = turns-taken (turns (suc t)) cs (omega arith)

  tallied : (cs : List Call) → (walk cs m).propagations ≡ set_in cs m
  unfolding walk answer answered_by set_in set_by
  tallied [] = unset
  tallied (c ∷ cs) = by (tallied cs) (admitted (walk cs m))
    where
      by : (walk cs m).propagations ≡ set_in cs m → (t : Bool) → (answered_by t c (walk cs m)).state.propagations ≡ cond t (bounds_set (turns_of c (walk cs m)) (walk cs m)) 0 + set_in cs m
      by e true = omega (arith, e, taken-set c cs)
      by e false = omega (arith, e)

  creeping : (cs : List Call) → (walk cs m).propagations ≤ suc ((walk cs m).conflicts + strikes cs m) * slack p.domain
  creeping cs = let w = st cs in rw w.many (reached-creeps p (LeftAfter cs) (length w.gone) (walk cs m) w.reached)

  -- with so much budget there are no more dead ends and strikes together than points
  modest-set : (cs : List Call) → Modest p cs m → suc ((walk cs m).conflicts + strikes cs m) * slack p.domain ≤ max_propagations
  modest-set cs (inl h) =
      let w = st cs in
      few-set p sized fits ((walk cs m).conflicts + strikes cs m) (omega (arith, w.many, sized.small-budget, reached-few p (LeftAfter cs) (length w.gone) (walk cs m) w.reached))
  modest-set cs (inr h) = h

  accepted : (cs : List Call) → Modest p cs m → admitted (walk cs m) ≡ true
  accepted cs h = let w = st cs in true_of _ (set-admitted p (LeftAfter cs) (length w.gone) (walk cs m) w.valid w.reached (rw w.many at (modest-set cs h)))

  pub enumerates : Enumerates p m
  enumerates =
      record {
        every = solutions-every p;
        ordered = solutions-ascending p;
        accepted = accepted;
        prefix = λ cs. let w = st cs in rw (w.list, w.split) (prefix-take (cond (stands cs m) 1 0) w.gone w.left);
        position = position;
        one-stands = λ cs. omega (arith, shown-length cs, (st cs).many);
        no-form = no-form;
        counted = λ c cs h. unfold walk in (counts c cs h).count;
        carried = λ cs h. (st cs).carried h;
        bounded = λ cs. let w = st cs in omega (arith, shown-length cs, (some-shown (stands cs m) cs w.mark w.reached).1);
        propagated = λ c cs h. unfold walk in (counts c cs h).propagations;
        tallied = tallied;
        creeping = creeping;
        cuts = λ cs x z. (st cs).cuts x (meets-inequalities x p.constraints z.meets);
        again = again;
        complete = complete;
        ends = λ cs k. let w = st cs in let q = w.kept k in omega (arith, kept-few cs (length cs) q.0 q.1 w.reached);
        enough = λ h c cs e. omega (arith, (last-said c cs out_of_budget e (λ n. impossible (cc))).leaves.1);
      }

-- ---- from a fresh opening
pub fresh : (p : Problem) (z : Small.Sizes p) (f : ProblemFits p) → Stands p z.few-variables (open_problem p) false 0 [] [] (Unit {0}) (Unit {0}) 0
unfolding is_solved open_problem
fresh p z f =
    record {
      gone = [];
      left = all_solutions p;
      split = refl;
      valid = opened-valid p z f;
      reached = still (open-same p (Solution p) (λ x. In x (all_solutions p)) 0 (open_problem p) (solutions-every p) (opened-open p f));
      many = refl;
      mark = refl;
      list = refl;
      carried = λ h. opened-conflicts p z f;
      cuts = λ x h. tt;
      kept = λ h. (omega arith, λ n. impossible (cc));
    }

lists_of : (p : Problem) → Acceptable p → Enumerates p (open_problem p)
lists_of p a =
    let z = sized_of p a in
    let f = fits-of p a in
    enumerates p z f (open_problem p) (fresh p z f) (opened-propagations p z f)

-- with enough budget only 'ended' and 'none' end a list
module _ (p : Problem) (s : Search) (e : Enumerates p s) (n : points p ≤ p.budget) (c : Call) (cs : List Call) where
  all-at-end : Ends (says c cs s) → shown (c ∷ cs) s ≡ all_solutions p
  all-at-end (inl h) = e.complete c cs h
  all-at-end (inr (inl h)) = absurd (e.enough n c cs h)
  all-at-end (inr (inr h)) = let a = e.accepted cs (inl n) in let r = refused-only c (walk cs s) 9 (unfold says in h) in impossible (cc)

pub listings-of-problems : ListingsOfProblems
listings-of-problems =
    record { lists = lists_of; all_shown = λ p a n c cs k. let e = lists_of p a in (e.ends cs k, all-at-end p (open_problem p) e n c cs) }

pub listings : Listings
listings =
    let l = listings-of-problems in
    record { lists = λ f a. l.lists (problem_in f) (acceptable-of f a); all_shown = λ f a. l.all_shown (problem_in f) (acceptable-of f a) }
