-- A round of the loop: what its first call asks and gives, and the measure after a decision.
use Prim.Native.Nat.{ℕ, zero, suc, ◌+◌, ◌-◌, ◌*◌, ◌≤◌, ◌<◌}
use native.Mathlib.Omega.{arith}
use mathlib.Core.Bool.{Bool, true, false}
use mathlib.Core.List.{List, [], ◌∷◌}
use mathlib.Core.Path.{◌≡◌, refl, sym, ap, subst, ◌∙◌}
use borrow.Author.Tests.{not-true}
use lib.Dec.{T}
use Rattle.lists.proofs.Bools.{true_of}
use lib.IntN.{ℤ}
use lib.ListN.{get_or, length, drop, length-append, length-drop}
use Rattle.model_problems.specs.Lists.{all_of}
use Rattle.model_problems.specs.Ranges.{max_budget}
use Rattle.model_files.specs.Bytes.{block_length}
use Rattle.model_problems.specs.Constraint.{Constraint, Box, falsified}
use Rattle.model_files.specs.File.{no_constraint}
use Rattle.model_problems.specs.Problem.{bounds_in_range}
use Rattle.model_walk.specs.Search as model
use Rattle.model_walk.specs.Move.{Move, conflict, decide, slack}
use Rattle.model_walk.specs.Trace.{joined}
use Rattle.layout.specs.Rows.{input_at, box_of, thresholds_of}
use Rattle.validity.proofs.Boxes.{Ordered, OpenAt, first-open, low_half, low-slack}
use Rattle.validity.proofs.Thresholds.{Outside}
use Rattle.validity.proofs.Moves.{Clear, Chosen}
use Rattle.validity.proofs.Shrinking.{Shrinks, raise-shrinks, lower-shrinks}
use Rattle.validity.proofs.States.{deepest-ordered, deepest-outside}
use Rattle.state.specs.View.{level_of, levels_from, core_over, number_for}
use Rattle.state.specs.Change.{Whole, held, decided_at}
use Rattle.state.specs.declared.Level.{Level}
use Rattle.state.proofs.Levels.{level-decided}
use Rattle.propagate.specs.Moves.{stop_of}
use Rattle.propagate.specs.Propagation.{Propagation, propagation, most_counted, propagation_of}
use Rattle.propagate.specs.Ready.{Ready, GapFree}
use Rattle.propagate.specs.Apart.{kept_over}
use Rattle.propagate.specs.declared.propagate.Propagated.{Propagated}
use Rattle.propagate.proofs.Warning.{length_over, over-input}
use Rattle.propagate.proofs.Fuel.{propagation-keeps}
use Rattle.propagate.proofs.States.{state-ready, state-gap-free, state-descent, state-count, state-fits, state-chosen}
use Rattle.turns.specs.Advancing.{Buffered}
use Rattle.conflict.specs.Learning.{Learnable}
use Rattle.turns.proofs.Measures.{step_weight}
use Rattle.turns.proofs.Running.{Running, Propagates, core_here, depth-here, decided-variable}

-- ---- each bound that propagation sets takes one from the slack, or more
slack-propagated : (ts : List ℤ) (ks : List Constraint) (number : ℕ → ℕ) (l : model.Level) (c : ℕ) → Ordered l.box → Outside ts l.box →
    let p = propagation ts ks number l c in
    (c ≤ p.count) × (p.count + slack p.level.box ≤ c + slack l.box)
slack-propagated ts ks number l c o a =
    let smaller : (k q : Box) (d : ℕ) → Shrinks ts q k → (c ≤ d) × (d + slack k ≤ c + slack l.box) → (Ordered q × Outside ts q) × ((c ≤ suc d) × (suc d + slack q ≤ c + slack l.box)) = λ k q d s p. ((s.ordered, s.outside), (omega (arith, p.0), omega (arith, s.less, p.1))) in
    (propagation-keeps ts ks number (λ k d. (Ordered k.box × Outside ts k.box) × ((c ≤ d) × (d + slack k.box ≤ c + slack l.box))) (λ k d p. p.0.0) (λ k d p. p.0.1)
    (λ k d j i v p r. unfold model.raise_lower model.hold_lower in smaller k.box _ d (raise-shrinks ts ks k.box j i v p.0.0 p.0.1 r) p.1)
    (λ k d j i v p r. unfold model.lower_upper model.hold_upper in smaller k.box _ d (lower-shrinks ts ks k.box j i v p.0.0 p.0.1 r) p.1)
    l c ((o, a), (omega arith, omega arith))).holds.1

-- the buffer has the length that it had
buffered-length : (keep : Bool) (blocks : List (List ℕ)) (old now : List ℕ) (done limit : ℕ) → length blocks ≡ done → length (joined blocks) ≡ block_length * done → done ≤ limit →
    (keep ≡ true → block_length * limit ≤ length old) → Buffered keep blocks old now → length now ≡ length old
buffered-length true blocks old now done limit m l w room b =
    let h = room refl in
    ap length (b.written refl) ∙ omega (arith, length-append (joined blocks) (drop (block_length * length blocks) old), length-drop (block_length * length blocks) old)
buffered-length false blocks old now done limit m l w room b = ap length (b.untouched refl)

clear_at : (ks : List Constraint) (box : Box) (j : ℕ) → Clear ks box → j < length ks → falsified (get_or ks j no_constraint) box ≡ false
clear_at [] box j c h = absurd (omega arith)
clear_at (k ∷ ks) box zero c h = not-true (falsified k box) (true_of _ c.0)
clear_at (k ∷ ks) box (suc j) c h = clear_at ks box j c.1 (omega arith)

-- whatever the decision variable is
pub ready_with : {n m made : ℕ} {rows lower upper : List ℤ} {below above : List ℕ} {d : ℕ} (e : ℕ) → Ready n m made rows (held lower upper below above d) → Ready n m made rows (held lower upper below above e)
ready_with e r =
    let w = r.whole in
    record {
      few = r.few;
      inputs = r.inputs;
      cuts = r.cuts;
      whole = record { lower = w.lower; upper = w.upper; below = w.below; above = w.above };
      constraints = r.constraints;
      bounds = r.bounds;
    }

module _ {s : model.Search} {old : List ℕ} {limit : ℕ} {keep : Bool} {thresholds lines divisors : List ℤ} {n m budget : ℕ} {now : List ℕ} {rows : List ℤ} {numbers : List ℕ} {levels : List Level} {made conflicts depth : ℕ}
    {level before : Level} {start done earlier tally : ℕ} (r : Running s old limit keep thresholds lines divisors n m budget now rows numbers levels made conflicts depth level before start done earlier tally) where
  pub depth_small : depth ≤ 32
  depth_small = omega (arith, depth-here thresholds lines divisors n m rows numbers levels made depth level r.fits, r.counts.few)

  pub made-small : made ≤ max_budget
  made-small = omega (arith, r.counts.cuts, r.counts.afford, r.counts.limited)

  pub ready : Ready n m made rows level
  ready = state-ready thresholds n m made rows lines divisors numbers level (levels_from n levels depth) r.apart r.fits r.counts.few r.counts.inputs made-small r.whole

  pub gap-free : GapFree n thresholds level.lower level.upper
  gap-free = state-gap-free thresholds n m made rows lines divisors numbers level (levels_from n levels depth) r.apart r.fits r.thresholds_long

  pub same_length : length now ≡ length old
  same_length = buffered-length keep r.blocks old now done limit r.many r.long r.within r.room r.buffer

  pub box-ordered : Ordered (level_of n level).box
  unfolding core_over
  box-ordered = deepest-ordered (core_here thresholds lines divisors n m rows numbers levels made depth level) r.fits

  pub box-outside : Outside (thresholds_of n thresholds) (level_of n level).box
  unfolding core_over
  box-outside = deepest-outside (core_here thresholds lines divisors n m rows numbers levels made depth level) r.fits

  -- propagation counts from the tally on
  pub countable : tally + slack (box_of n level.lower level.upper) ≤ most_counted
  unfolding core_over level_of
  countable = omega (arith, r.counted.few, r.counted.fits, r.counts.afford, r.counts.limited)

  module _ (here : Level) (found : Propagated) (e : propagation_of n here found ≡ propagation (thresholds_of n thresholds) (kept_over n m made rows lines divisors) (number_for m made) (level_of n level) tally) where
    counts-here : (tally ≤ found.count) × (found.count + slack (level_of n here).box ≤ tally + slack (level_of n level).box)
    unfolding propagation_of
    counts-here =
        subst (λ (q : Propagation). (tally ≤ q.count) × (q.count + slack q.level.box ≤ tally + slack (level_of n level).box)) (sym e) (slack-propagated (thresholds_of n thresholds) (kept_over n m made rows lines divisors) (number_for m made) (level_of n level) tally box-ordered box-outside)

    pub propagates : (q : Move) → stop_of found.found ≡ q → Propagates (core_here thresholds lines divisors n m rows numbers levels made depth level) (core_here thresholds lines divisors n m rows numbers levels made depth here) q tally found.count
    propagates q f =
        let ls = levels_from n levels depth in
        let d = core_here thresholds lines divisors n m rows numbers levels made depth here in
        let chosen : Chosen (model.kept d) d.deepest.box (stop_of found.found) =
        unfold core_over model.kept level_of in state-chosen thresholds n m made rows lines divisors numbers level ls r.apart r.fits here tally found e in
        subst (λ (x : Move). Propagates (core_here thresholds lines divisors n m rows numbers levels made depth level) d x tally found.count) f
        (record {
          fits = state-fits thresholds n m made rows lines divisors numbers level ls r.apart r.fits here tally found e;
          next = state-descent thresholds n m made rows lines divisors numbers level ls r.apart r.fits here tally found e;
          chosen = chosen;
          count = state-count thresholds n m made rows lines divisors numbers level ls r.apart r.fits here tally found e;
          less = unfold core_over in counts-here.1;
        })

    -- a decision: its variable, and the measure falls
    pub decided-here : (i : ℕ) → stop_of found.found ≡ decide i → i < n
    decided-here i f =
        let q = propagates (decide i) f in
        unfold core_over in decided-variable (core_here thresholds lines divisors n m rows numbers levels made depth here) i q.fits q.chosen

    pub decide-less : (i : ℕ) → stop_of found.found ≡ decide i → Whole here →
        (limit - done) * step_weight + slack (box_of n (decided_at here i).lower (decided_at here i).upper) <
        (limit - done) * step_weight + slack (box_of n level.lower level.upper)
    decide-less i f w =
        let q = propagates (decide i) f in
        let c = core_here thresholds lines divisors n m rows numbers levels made depth here in
        let o : Ordered (level_of n here).box = unfold core_over in deepest-ordered c q.fits in
        let a : OpenAt (level_of n here).box i = unfold core_over in first-open i (level_of n here).box q.chosen.first in
        let k : (level_of n (decided_at here i)).box ≡ low_half i (level_of n here).box =
        unfold model.decide_at low_half in ap (λ (x : model.Level). x.box) (level-decided n here w r.counts.few i (decided-here i f)) in
        let less : slack (level_of n (decided_at here i)).box < slack (level_of n level).box =
        rw k (omega (arith, low-slack i (level_of n here).box o a, counts-here.0, counts-here.1)) in
        let small : slack (box_of n (decided_at here i).lower (decided_at here i).upper) < slack (box_of n level.lower level.upper) = unfold level_of in less in
        omega arith

    -- a conflict: what learning from it asks
    pub learnable : (j : ℕ) → stop_of found.found ≡ conflict j → Whole here × T (all_of bounds_in_range (box_of n here.lower here.upper)) → Learnable n m made rows numbers here j
    learnable j f w =
        let q = propagates (conflict j) f in
        let g = ready in
        let at : j < length (kept_over n m made rows lines divisors) = unfold core_over model.kept in q.chosen.at in
        record {
          variables = r.counts.few;
          inputs = r.counts.inputs;
          cuts = made-small;
          rows_long = r.rows_long;
          numbers_long = r.numbers_long;
          whole = w.0;
          constraints = g.constraints;
          bounds = w.1;
          position = omega (arith, length_over n m made rows lines divisors);
        }

    -- a decision is taken only where no input is falsified
    pub clear-here : (i : ℕ) → stop_of found.found ≡ decide i → (j : ℕ) → j < m → falsified (input_at n lines divisors j) (box_of n here.lower here.upper) ≡ false
    clear-here i f j h =
        let q = propagates (decide i) f in
        let c : Clear (kept_over n m made rows lines divisors) (box_of n here.lower here.upper) = unfold core_over model.kept level_of in q.chosen.clear in
        rw (over-input n m made rows lines divisors j h) at (clear_at (kept_over n m made rows lines divisors) (box_of n here.lower here.upper) j c (omega (arith, length_over n m made rows lines divisors)))
