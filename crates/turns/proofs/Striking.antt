-- Solutions that the loop strikes out: between two strikes it goes as it does without them.
use Prim.Native.Nat.{ℕ, zero, suc, ◌+◌, ◌-◌, ◌*◌, ◌≤◌, ◌<◌}
use native.Mathlib.Omega.{arith}
use native.Mathlib.Nat.{mul-zero, mul-suc, mul-le-mul_left}
use borrow.Author.Tests.{eqb-true, eqb-false, ltb-true, ltb-false}
use mathlib.Core.Bool.{Bool, true, false, ◌||◌}
use mathlib.Core.List.{List, [], ◌∷◌, ◌++◌, append_assoc, append-nil}
use mathlib.Core.Logic.{◌⊎◌, inl, inr, ⊎_elim}
use mathlib.Core.Path.{◌≡◌, refl, sym, ap, subst, ◌∙◌}
use lib.Dec.{eqb, ltb}
use lib.IntN.{ℤ}
use lib.ListN.{set, length, drop, length-set, length-append}
use Rattle.model_problems.specs.Lists.{tab}
use Rattle.model_problems.specs.Ranges.{max_propagations}
use Rattle.model_problems.specs.Constraint.{Bounds}
use Rattle.model_problems.specs.Points.{Point}
use Rattle.model_walk.specs.Search as model
use Rattle.model_walk.specs.Move.{finish, slack}
use Rattle.model_walk.specs.Conflict.{back_up}
use Rattle.model_walk.specs.Step.{Verdict, go_on, no_solution, out_of_budget, solution, lowers, with_status}
use Rattle.model_walk.specs.Trace.{Trace, advance, joined}
use Rattle.model_walk.specs.Exclude.{Exclusion, struck, ended, unsolved, Excluded, unchanged, exclude_at, exclude_by, exclude, exclude_within}
use Rattle.model_walk.specs.Listing.{Listing, ends_with, list_after, goes_on}
use Rattle.lists.proofs.Bools.{clash, or-true, or-false, lt-or-le}
use Rattle.lists.proofs.Tab.{length-tab, tab-map}
use Rattle.layout.specs.Rows.{number_in, bounds_at, box_of}
use Rattle.validity.proofs.States.{CoreFits}
use Rattle.validity.proofs.Conflicts.{back_fits}
use Rattle.validity.proofs.Excluding.{within-exclude, past-exclude}
use Rattle.validity.proofs.Steps.{impossible}
use Rattle.state.specs.View.{level_of, core_over, view}
use Rattle.state.specs.declared.Level.{Level}
use Rattle.state.specs.declared.Search.{Search}
use Rattle.state.proofs.Cores.{length-levels}
use Rattle.turns.specs.Advancing.{verdict_of, trace_of, advance_over, Advances}
use Rattle.levels.specs.Struck.{last_of, ValuesPut}
use Rattle.turns.specs.declared.Ending.{Ending}
use Rattle.turns.specs.declared.Ending.TheVariants.{GoOn, NoSolution, OutOfBudget, Solution}
use Rattle.turns.proofs.Measures.{step_weight, core-slack}
use Rattle.turns.proofs.Running.{Running, Propagates, step_start, core_here, starts-tally}
use Rattle.turns.proofs.Arms.{state_at, Reaches, finishes}
use Rattle.turns.proofs.Buffers.{joined_length, part-more}
use Rattle.turns.proofs.Starting.{with_none}
use Rattle.turns.proofs.Returning.{Back, inside, one_more, flipped_to, flipped-whole, flipped-is, backed-here}

-- ---- turns with strikes
not-struck : {A : Type 0} (v : Verdict) (e : Exclusion) (a : A) (l : Listing A) → ((x : Point) → v ≡ solution x → ¬ (e ≡ struck)) → goes_on v e a l ≡ ends_with a
unfolding goes_on
not-struck go_on e a l n = refl
not-struck no_solution e a l n = refl
not-struck out_of_budget e a l n = refl
not-struck (solution x) struck a l n = absurd (n x refl refl)
not-struck (solution x) ended a l n = refl
not-struck (solution x) unsolved a l n = refl

excluded-at-0 : (m : model.Status) (s : model.Search) → model.depth s.core ≡ 0 → ¬ ((exclude_by m s).answer ≡ struck)
unfolding exclude_by exclude_at unchanged
excluded-at-0 model.undecided s d e = impossible (cc)
excluded-at-0 model.infeasible s d e = impossible (cc)
excluded-at-0 model.solved s d e = let q : ended ≡ struck = sym (ap (λ (k : ℕ). (exclude_at k s).answer) d) ∙ e in impossible (cc)

-- inside a listing: of a state that a call would refuse, and at depth 0, nothing is struck
past-struck : (s : model.Search) → max_propagations < s.propagations → ¬ ((exclude_within s).answer ≡ struck)
unfolding unchanged
past-struck s h e = let q : unsolved ≡ struck = ap (λ (x : Excluded). x.answer) (sym (past-exclude s h)) ∙ e in impossible (cc)

within-struck : (s : model.Search) → (model.depth s.core ≡ 0) ⊎ (max_propagations < s.propagations) → ¬ ((exclude_within s).answer ≡ struck)
within-struck s (inr h) e = past-struck s h e
within-struck s (inl z) e =
    ⊎_elim (λ (h : max_propagations < s.propagations). past-struck s h e)
    (λ (h : s.propagations ≤ max_propagations). unfold exclude in excluded-at-0 s.status s z (ap (λ (x : Excluded). x.answer) (sym (within-exclude s h)) ∙ e)) (lt-or-le max_propagations s.propagations)

-- they end with the first turns that end otherwise, or that leave nothing to strike
list-ends : (spare limit : ℕ) (s : model.Search) (t : Trace) (d k : ℕ) → advance limit s ≡ t → model.depth t.state.core ≡ d → t.state.propagations ≡ k →
    ((x : Point) → t.verdict ≡ solution x → (spare ≡ 0) ⊎ ((d ≡ 0) ⊎ (max_propagations < k))) → advance_over spare limit s ≡ ends_with t
unfolding advance_over
list-ends zero limit s t d k e q p f = ap ends_with e
list-ends (suc spare) limit s t d k e q p f =
    rw e (not-struck t.verdict (exclude_within t.state).answer t _
    (λ x h. ⊎_elim (λ (z : suc spare ≡ 0). absurd (omega arith)) (λ (z : (d ≡ 0) ⊎ (max_propagations < k)). within-struck t.state (rw (q, p) z)) (f x h)))

list-goes : (spare limit : ℕ) (s : model.Search) (t : Trace) (x : Point) (b : model.Search) → advance limit s ≡ t → t.verdict ≡ solution x → exclude_within t.state ≡ record { answer = struck; state = b } →
    advance_over (suc spare) limit s ≡ list_after (x ∷ []) (advance_over spare (limit - length t.blocks) b)
unfolding advance_over
list-goes spare limit s t x b e f g = rw (e, f, g) (unfold goes_on in refl)

after-after : {A : Type 0} (a b : List Point) (l : Listing A) → list_after a (list_after b l) ≡ list_after (a ++ b) l
unfolding list_after
after-after a b l = rw append_assoc

after-end : {A : Type 0} (a : List Point) (t : A) → list_after a (ends_with t) ≡ record { struck = a; last = t }
unfolding list_after ends_with
after-end a t = rw append-nil

-- ---- the test of the last solution
pub last-final : (depth many room k : ℕ) (b : Bool) → b ≡ last_of depth many room k → b ≡ true → (room - many ≡ 0) ⊎ ((depth ≡ 0) ⊎ (max_propagations < k))
last-final depth many room k b e t =
    ⊎_elim (λ (z : eqb depth 0 ≡ true). inr (inl (eqb-true depth 0 z)))
    (λ (z : (eqb many room || ltb max_propagations k) ≡ true).
    ⊎_elim (λ (y : eqb many room ≡ true). inl (omega (arith, eqb-true many room y))) (λ (y : ltb max_propagations k ≡ true). inr (inr (ltb-true max_propagations k y))) (or-true (eqb many room) (ltb max_propagations k) z))
    (or-true (eqb depth 0) (eqb many room || ltb max_propagations k) (sym e ∙ t))

pub not_last : (depth many room k : ℕ) (b : Bool) → b ≡ last_of depth many room k → b ≡ false → many ≤ room → (1 ≤ depth) × ((many < room) × (k ≤ max_propagations))
not_last depth many room k b e t h =
    let z = or-false (eqb depth 0) (eqb many room || ltb max_propagations k) (sym e ∙ t) in
    let y = or-false (eqb many room) (ltb max_propagations k) z.1 in
    (omega (arith, eqb-false depth 0 z.0), (omega (arith, eqb-false many room y.0), ltb-false max_propagations k y.1))

-- where there is room for it, no blocks are kept
pub none_kept : (keep : Bool) (many room : ℕ) → (keep ≡ true → room ≡ 0) → many < room → keep ≡ false
none_kept true many room f h = absurd (omega (arith, f refl))
none_kept false many room f h = refl

-- its values have a place among those of all that there is room for
pub row_fits : (n many room size : ℕ) → many < room → n * room ≤ size → n * many + n ≤ size
row_fits n many room size h l =
    let e : n * suc many ≤ n * room = mul-le-mul_left n (omega arith) in
    omega (arith, mul-suc n many)

-- ---- the loop's way: the solutions struck out, the state after the last of them, and what holds from there
pub record Struck (s : model.Search) (limit room n : ℕ) (old : List ℤ) (left many : ℕ) (now : List ℤ) (Here : model.Search → Type 0) : Type 0 where
  pub gone : List Point
  pub base : model.Search
  pub count : length gone ≡ many
  pub few : many ≤ room
  pub less : left ≤ limit
  pub long : length (joined gone) ≡ n * many
  pub way : advance_over room limit s ≡ list_after gone (advance_over (room - many) left base)
  pub listed : now ≡ joined gone ++ drop (n * length gone) old
  pub size : length now ≡ length old
  pub here : Here base

module _ {s : model.Search} {limit room n : ℕ} {old : List ℤ} where
  pub started : {Here : model.Search → Type 0} → Here s → Struck s limit room n old limit 0 old Here
  unfolding joined list_after
  started h =
      let z : room - 0 ≡ room = omega arith in
      record { gone = []; base = s; count = refl; few = omega arith; less = omega arith; long = sym (mul-zero n); way = rw z; listed = rw (mul-zero n); size = refl; here = h }

  module _ {left many : ℕ} {now : List ℤ} {Here : model.Search → Type 0} (k : Struck s limit room n old left many now Here) where
    pub go_on_lem : {There : model.Search → Type 0} → There k.base → Struck s limit room n old left many now There
    go_on_lem h =
        record { gone = k.gone; base = k.base; count = k.count; few = k.few; less = k.less; long = k.long; way = k.way; listed = k.listed; size = k.size; here = h }

    -- one more, after turns that found it
    pub struck-more : many < room → (t : Trace) (values : List ℤ) (b : model.Search) → advance left k.base ≡ t → t.verdict ≡ solution (tab (number_in values) 0 n) → exclude_within t.state ≡ record { answer = struck; state = b } →
        (next : List ℤ) → ValuesPut n many values now next → length next ≡ length now → {There : model.Search → Type 0} → There b →
        Struck s limit room n old (left - length t.blocks) (many + 1) next There
    struck-more more t values b e f g next q size h =
        let x = tab (number_in values) 0 n in
        let z : room - many ≡ suc (room - (many + 1)) = omega arith in
        record {
          gone = k.gone ++ (x ∷ []);
          base = b;
          count = omega (arith, k.count, length-append k.gone (x ∷ []));
          few = omega arith;
          less = omega (arith, k.less);
          long = joined_length n k.gone x many k.long (length-tab (number_in values) 0 n);
          way = k.way ∙ ap (list_after k.gone) (ap (λ (d : ℕ). advance_over d left k.base) z ∙ list-goes (room - (many + 1)) left k.base t x b e f g) ∙ after-after k.gone (x ∷ []) _;
          listed = part-more n k.gone x old now next many k.count k.long k.listed q;
          size = size ∙ k.size;
          here = h;
        }

-- ---- the end: what the code's state shows
ending-solution : (e : Ending) (t : model.Search) (x : Point) → verdict_of e t ≡ solution x → e ≡ Solution
unfolding verdict_of
ending-solution GoOn t x h = impossible (cc)
ending-solution NoSolution t x h = impossible (cc)
ending-solution OutOfBudget t x h = impossible (cc)
ending-solution Solution t x h = refl

depth-at : (thresholds lines divisors : List ℤ) (n m : ℕ) (rows : List ℤ) (numbers : List ℕ) (levels : List Level) (made depth : ℕ) (l : Level) → model.depth (core_here thresholds lines divisors n m rows numbers levels made depth l) ≡ depth
unfolding model.depth core_over
depth-at thresholds lines divisors n m rows numbers levels made depth l = length-levels n levels depth

pub concludes : {s : model.Search} {limit room n left many done : ℕ} {list list₁ : List ℤ} {Here : model.Search → Type 0} (k : Struck s limit room n list left many list₁ Here) → s.core.variables ≡ n →
    {keep : Bool} {ending : Ending} {old now : List ℕ} (thresholds lines divisors : List ℤ) (m budget conflicts made depth : ℕ) (status : model.Status) (rows : List ℤ) (numbers : List ℕ) (levels : List Level) (l : Level) (tally : ℕ) →
    Reaches k.base left keep ending done (state_at thresholds lines divisors n m budget conflicts made depth status rows numbers levels l tally) old now → (ending ≡ Solution → (room - many ≡ 0) ⊎ ((depth ≡ 0) ⊎ (max_propagations < tally))) →
    (u : Search) → view u ≡ state_at thresholds lines divisors n m budget conflicts made depth status rows numbers levels l tally →
    Advances s limit keep room (record { ending = ending; struck = many; blocks = done; state = u }) old now list list₁
unfolding trace_of view
concludes {s} {limit} {room} {n} {left} {many} {list₁ = list₁} k v {ending = ending} thresholds lines divisors m budget conflicts made depth status rows numbers levels here tally r f u e =
    let t = state_at thresholds lines divisors n m budget conflicts made depth status rows numbers levels here tally in
    let l : Trace = record { verdict = verdict_of ending t; count = t.conflicts; propagations = tally; blocks = r.blocks; state = t } in
    let way : record { struck = k.gone; last = l } ≡ advance_over room limit s =
    sym (k.way ∙ ap (list_after k.gone) (list-ends (room - many) left k.base l depth tally (sym r.trace) (depth-at thresholds lines divisors n m rows numbers levels made depth here) refl (λ x h. f (ending-solution ending t x h))) ∙ after-end k.gone l) in
    record {
      struck = k.gone;
      how_many = sym k.count;
      blocks = r.blocks;
      many = r.many;
      trace = subst (λ (x : model.Search). record { struck = k.gone; last = record { verdict = verdict_of ending x; count = x.conflicts; propagations = x.propagations; blocks = r.blocks; state = x } } ≡ advance_over room limit s) (sym e) way;
      buffer = r.buffer;
      listed = rw v k.listed;
    }

-- ---- a solution found in the loop, and struck out
pub lowers-are : (n : ℕ) (l : Level) → lowers (level_of n l).box ≡ tab (number_in l.lower) 0 n
unfolding level_of box_of lowers
lowers-are n l = tab-map (λ (b : Bounds). b.lower) (bounds_at l.lower l.upper) 0 n ∙ (unfold bounds_at in refl)

module _ {s : model.Search} {limit room n : ℕ} {list : List ℤ} {left many : ℕ} {list₁ : List ℤ} {Here : model.Search → Type 0} (u : Struck s limit room n list left many list₁ Here)
    {old : List ℕ} {keep : Bool} {thresholds lines divisors : List ℤ} {m budget : ℕ} {now : List ℕ} {rows : List ℤ} {numbers : List ℕ} {levels : List Level} {made conflicts depth : ℕ} {level before : Level} {start done earlier tally : ℕ}
    (r : Running u.base old left keep thresholds lines divisors n m budget now rows numbers levels made conflicts depth level before start done earlier tally)
    (tally₁ : ℕ) {here : Level} (k : Back thresholds lines divisors n m rows numbers levels made depth here depth made rows) where
  abbrev core : model.Core
  core = core_here thresholds lines divisors n m rows numbers levels made depth here

  abbrev found : model.Search
  found = state_at thresholds lines divisors n m budget conflicts made depth model.solved rows numbers levels here tally₁

  -- the state after the strike
  abbrev pub struck_to : model.Search
  struck_to = step_start thresholds lines divisors n m budget conflicts rows numbers (set levels depth here) made (flipped_to k) (depth - 1) tally₁

  deep-here : model.depth core ≡ suc (depth - 1)
  deep-here = depth-at thresholds lines divisors n m rows numbers levels made depth here ∙ one_more k

  backed : back_up (suc (depth - 1)) core ≡ core_here thresholds lines divisors n m rows numbers (set levels depth here) made (depth - 1) (flipped_to k)
  backed = backed-here thresholds lines divisors n m made rows numbers levels depth here (inside k) (depth - 1) (omega (arith, k.some)) (flipped_to k) (flipped-is k)

  strikes : tally₁ ≤ max_propagations → exclude_within found ≡ record { answer = struck; state = struck_to }
  unfolding exclude exclude_by
  strikes few =
      within-exclude found few ∙ ap (λ (d : ℕ). exclude_at d found) deep-here ∙
      (unfold exclude_at with_status in ap (λ (c : model.Core). record { answer = struck; state = record { core = c; budget = budget; conflicts = conflicts; propagations = tally₁; status = model.undecided } }) backed)

  pub struck-out : many < room → tally₁ ≤ max_propagations → done < left → Propagates (core_here thresholds lines divisors n m rows numbers levels made depth level) core finish tally tally₁ →
      (next : List ℤ) → ValuesPut n many here.lower list₁ next → length next ≡ length list₁ → {There : model.Search → Type 0} → There struck_to → Struck s limit room n list (left - done) (many + 1) next There
  unfolding verdict_of core_over
  struck-out more few h p next q size {There} t =
      let f = finishes r here tally₁ h p in
      subst (λ (d : ℕ). Struck s limit room n list (left - d) (many + 1) next There) (sym f.many)
      (struck-more u more _ here.lower struck_to (sym f.trace) (ap solution (lowers-are n here)) (strikes few) next q size t)

  -- the turns go on from there
  pub struck-on : keep ≡ false → tally₁ ≤ max_propagations → Running struck_to old (left - done) keep thresholds lines divisors n m budget now rows numbers (set levels depth here) made conflicts (depth - 1) (flipped_to k) (flipped_to k) (depth - 1) 0 tally₁ tally₁
  struck-on off few =
      let z : left - done - 0 ≡ left - done = omega arith in
      let fits = subst CoreFits backed (back_fits (depth - 1) core k.fits (omega (arith, deep-here))) in
      record {
        counts = r.counts;
        whole = flipped-whole k;
        whole_before = flipped-whole k;
        rows_long = r.rows_long;
        numbers_long = r.numbers_long;
        levels_long = length-set levels depth here ∙ r.levels_long;
        thresholds_long = r.thresholds_long;
        apart = r.apart;
        fits = fits;
        from = omega arith;
        counted = starts-tally _ conflicts tally₁ (omega arith) (core-slack _ fits (unfold core_over in r.counts.few));
        turn = refl;
        within = omega arith;
        blocks = [];
        many = refl;
        long = unfold joined in refl;
        room = λ e. clash e off;
        ahead = rw z (sym (with_none _));
        buffer = record { written = λ e. clash e off; untouched = r.buffer.untouched };
      }

  -- and the loop's measure falls
  pub struck-less : keep ≡ false → tally₁ ≤ max_propagations → many < room →
      (room - (many + 1) + (left - done - 0)) * step_weight + slack (box_of n (flipped_to k).lower (flipped_to k).upper) < (room - many + (left - done)) * step_weight + slack (box_of n level.lower level.upper)
  unfolding core_over level_of
  struck-less off few more = omega (arith, core-slack _ (struck-on off few).fits r.counts.few)
