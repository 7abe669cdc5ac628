-- A counted conflict in the loop: what its call asks and gives, the level to go back to, and the two ways on.
use Prim.Native.Nat.{ℕ, suc, ◌+◌, ◌-◌, ◌*◌, ◌≤◌, ◌<◌}
use native.Mathlib.Omega.{arith}
use mathlib.Core.Bool.{Bool}
use mathlib.Core.List.{List}
use mathlib.Core.Logic.{⊎_elim}
use mathlib.Core.Path.{◌≡◌, sym, ap, ap₂, subst, ◌∙◌}
use lib.IntN.{ℤ}
use lib.ListN.{get_or, set, length}
use lib.Seq.{get_or-set_same}
use Rattle.model_problems.specs.Lists.{tab}
use Rattle.model_problems.specs.Ranges.{max_variables}
use Rattle.model_walk.specs.Search as model
use Rattle.model_walk.specs.Move.{conflict, slack}
use Rattle.model_walk.specs.Conflict.{at_conflict}
use Rattle.model_files.specs.Journal.{record_bytes}
use Rattle.model_walk.specs.Step as step
use Rattle.lists.proofs.Tab.{length-tab}
use Rattle.layout.specs.Rows.{cell, constraint_at, input_at, box_of}
use Rattle.state.specs.View.{no_level, level_of, core_over}
use Rattle.state.specs.Change.{Whole}
use Rattle.state.specs.declared.Level.{Level}
use Rattle.state.proofs.Cores.{number-over, length-levels, levels-above}
use Rattle.record.specs.Written.{record_of, Emitted}
use Rattle.record.proofs.Narrow.{record-narrow}
use Rattle.conflict.specs.Counting.{LearnedAt, DismissedAt, Counted}
use Rattle.turns.specs.declared.Ending.TheVariants.{NoSolution}
use Rattle.turns.proofs.Measures.{step_weight, core-slack}
use Rattle.turns.proofs.Running.{Running, Propagates, core_here}
use Rattle.turns.proofs.Arms.{state_at, Reaches}
use Rattle.turns.proofs.Conflicting.{conflict_with}
use Rattle.turns.proofs.Counting.{block_for, ends-none, goes_on_lem}
use Rattle.turns.proofs.Rounds.{depth_small}
use Rattle.turns.proofs.Concluding.{Keeps, keeps-learned, keeps-dismissed, Facts, is-learned, is-dismissed}
use Rattle.turns.proofs.Returning.{Back, one_more, flipped_to, flipped-whole, flipped-is}

-- ---- a conflict that the loop counts: where it is met, what it is, the level to go back to, and the buffer with its record
pub record Meets (s : model.Search) (old : List ℕ) (limit : ℕ) (keep : Bool) (thresholds lines divisors : List ℤ) (n m budget : ℕ) (now : List ℕ) (rows : List ℤ) (numbers : List ℕ) (levels : List Level) (made conflicts depth : ℕ)
    (level before : Level) (start done earlier tally : ℕ) (here : Level) (tally₁ back made₁ : ℕ) (rows₁ : List ℤ) (numbers₁ next : List ℕ) : Type 0 where
  pub running : Running s old limit keep thresholds lines divisors n m budget now rows numbers levels made conflicts depth level before start done earlier tally
  pub j : ℕ
  pub moved : Propagates (core_here thresholds lines divisors n m rows numbers levels made depth level) (core_here thresholds lines divisors n m rows numbers levels made depth here) (conflict j) tally tally₁
  pub left : done < limit
  pub afford : conflicts < budget
  pub cut : List ℤ
  pub used : List ℕ
  pub number : ℕ
  pub falsified : ℕ
  pub is : at_conflict (core_here thresholds lines divisors n m rows numbers levels made depth here) j ≡
      conflict_with (core_here thresholds lines divisors n m rows numbers levels made depth here) j (constraint_at n cut 0) (tab (λ i. get_or used i 0) 0 n) number back (core_here thresholds lines divisors n m rows₁ numbers₁ levels made₁ depth here)
  pub reach : back ≤ depth
  pub kept : Keeps n m made rows lines divisors cut used made₁ rows₁ numbers₁
  pub numbered : falsified ≡ model.number_at (core_here thresholds lines divisors n m rows numbers levels made depth here) j
  pub written : Emitted keep done (record_bytes (record_of max_variables (conflicts + 1) falsified number depth back cut used)) now next

pub meets : {s : model.Search} {old : List ℕ} {limit : ℕ} {keep : Bool} {thresholds lines divisors : List ℤ} {n m budget : ℕ} {now : List ℕ} {rows : List ℤ} {numbers : List ℕ} {levels : List Level} {made conflicts depth : ℕ}
    {level before : Level} {start done earlier tally : ℕ} → Running s old limit keep thresholds lines divisors n m budget now rows numbers levels made conflicts depth level before start done earlier tally →
    (here : Level) (j : ℕ) {tally₁ : ℕ} →
    Propagates (core_here thresholds lines divisors n m rows numbers levels made depth level) (core_here thresholds lines divisors n m rows numbers levels made depth here) (conflict j) tally tally₁ →
    done < limit → conflicts < budget → {masks : List ℕ} {back made₁ : ℕ} {rows₁ : List ℤ} {numbers₁ masks₁ next : List ℕ} →
    Counted n m made j depth (conflicts + 1) done keep rows numbers (set levels depth here) lines divisors masks now back made₁ rows₁ numbers₁ masks₁ next →
    Meets s old limit keep thresholds lines divisors n m budget now rows numbers levels made conflicts depth level before start done earlier tally here tally₁ back made₁ rows₁ numbers₁ next
meets {thresholds = thresholds} {lines = lines} {divisors = divisors} {n = n} {m = m} {rows = rows} {numbers = numbers} {levels = levels} {made = made} {depth = depth} r here j moved left afford {back = back} {made₁ = made₁} {rows₁ = rows₁} {numbers₁ = numbers₁} q =
    let same : get_or (set levels depth here) depth no_level ≡ here = get_or-set_same levels depth here no_level (omega (arith, depth_small r, r.levels_long)) in
    let facts =
    ⊎_elim {C = Facts thresholds lines divisors n m rows numbers levels made depth here j q.cut q.used q.number back made₁ rows₁ numbers₁}
    (λ (l : LearnedAt n m made j depth rows numbers (set levels depth here) divisors q.cut q.used q.number back made₁ rows₁ numbers₁).
    let x = rw same at l.learned in
    record { is = is-learned r here j moved l.plain _ x back l.jump; reach = l.jump.reach; kept = keeps-learned n m made rows lines divisors r.apart x })
    (λ (l : DismissedAt n m made j depth rows numbers (set levels depth here) lines divisors q.cut q.used q.number back made₁ rows₁ numbers₁).
    rw (l.nothing, l.same_made, l.same_rows, l.same_numbers)
    (record { is = is-dismissed r here j moved q.cut q.used back l.position l.divided l.cut_zero l.used_zero l.jump; reach = l.jump.reach; kept = keeps-dismissed n m made rows numbers lines divisors q.cut q.used r.apart r.rows_long r.numbers_long l.cut_zero l.used_zero }))
    q.concluded in
    record {
      running = r;
      j = j;
      moved = moved;
      left = left;
      afford = afford;
      cut = q.cut;
      used = q.used;
      number = q.number;
      falsified = q.falsified;
      is = facts.is;
      reach = facts.reach;
      kept = facts.kept;
      numbered = q.numbered ∙ sym (ap (λ (f : ℕ → ℕ). f j) (number-over _ (tab (input_at n lines divisors) 0 m) n m made rows numbers _ _ (length-tab (input_at n lines divisors) 0 m)));
      written = q.written;
    }

module _ {s : model.Search} {old : List ℕ} {limit : ℕ} {keep : Bool} {thresholds lines divisors : List ℤ} {n m budget : ℕ} {now : List ℕ} {rows : List ℤ} {numbers : List ℕ} {levels : List Level} {made conflicts depth : ℕ}
    {level before : Level} {start done earlier tally : ℕ} {here : Level} {tally₁ back made₁ : ℕ} {rows₁ : List ℤ} {numbers₁ next : List ℕ}
    (k : Meets s old limit keep thresholds lines divisors n m budget now rows numbers levels made conflicts depth level before start done earlier tally here tally₁ back made₁ rows₁ numbers₁ next) where
  abbrev r : Running s old limit keep thresholds lines divisors n m budget now rows numbers levels made conflicts depth level before start done earlier tally
  r = k.running

  abbrev stored : List Level
  stored = set levels depth here

  inside : depth < length levels
  inside = omega (arith, depth_small r, r.levels_long)

  abbrev block : ℕ → List ℕ
  block =
      block_for s old limit keep thresholds lines divisors n m budget now rows numbers levels made conflicts depth level before start done earlier tally here r k.left inside k.afford k.j tally₁ k.moved (constraint_at n k.cut 0)
      (tab (λ i. get_or k.used i 0) 0 n) k.number rows₁ numbers₁ made₁

  -- the block that was written is this conflict's
  block-is : record_bytes (record_of max_variables (conflicts + 1) k.falsified k.number depth back k.cut k.used) ≡ block back
  unfolding block_for step.record_of cell
  block-is =
      let d : depth ≡ model.depth (core_here thresholds lines divisors n m rows numbers levels made depth here) = unfold model.depth core_over in sym (length-levels n levels depth) in
      record-narrow n (conflicts + 1) k.falsified k.number depth back k.cut k.used (λ i a q. k.kept.cut_rest (0 + 1 + i) (omega arith)) (λ i a q. k.kept.used_rest i a) ∙
      ap₂ (λ (u v : ℕ). record_bytes (record_of n (conflicts + 1) u k.number v back k.cut k.used)) k.numbered d

  is_at : (e : ℕ) → back ≡ e →
      at_conflict (core_here thresholds lines divisors n m rows numbers levels made depth here) k.j ≡
      conflict_with (core_here thresholds lines divisors n m rows numbers levels made depth here) k.j (constraint_at n k.cut 0) (tab (λ i. get_or k.used i 0) 0 n) k.number e (core_here thresholds lines divisors n m rows₁ numbers₁ levels made₁ depth here)
  is_at e z = rw (← z) k.is

  emitted : (e : ℕ) → back ≡ e → Emitted keep done (block e) now next
  emitted e q = subst (λ (bytes : List ℕ). Emitted keep done bytes now next) (block-is ∙ ap block q) k.written

  -- at the end the level is stored too
  pub counted_none : back ≡ 0 →
      Reaches s limit keep NoSolution (done + 1) (state_at thresholds lines divisors n m budget (conflicts + 1) made₁ depth model.infeasible rows₁ numbers₁ stored here tally₁) old next
  counted_none z =
      rw (levels-above n levels depth depth here (omega arith)) (ends-none s old limit keep thresholds lines divisors n m budget now rows numbers levels made conflicts depth level before start done earlier tally here r k.left inside k.afford k.j tally₁ k.moved _ _ k.number rows₁ numbers₁ made₁
      (is_at 0 z) next (emitted 0 z))

  -- the level to go back to
  module _ (some : 1 ≤ back) (wo : Whole (get_or stored (back - 1) no_level)) where
    pub back-of : Back thresholds lines divisors n m rows numbers levels made depth here back made₁ rows₁
    back-of = record { few = r.counts.few; deep = depth_small r; levels_long = r.levels_long; fits = k.moved.fits; some = some; reach = k.reach; shifted = k.kept.shifted; whole = wo }

    pub counted-on : Running s old limit keep thresholds lines divisors n m budget next rows₁ numbers₁ stored made₁ (conflicts + 1) (back - 1) (flipped_to back-of) (flipped_to back-of) (back - 1) (done + 1) tally₁ tally₁
    counted-on =
        let e = one_more back-of in
        goes_on_lem s old limit keep thresholds lines divisors n m budget now rows numbers levels made conflicts depth level before start done earlier tally here r k.left inside k.afford k.j tally₁ k.moved _ _ k.number rows₁ numbers₁ made₁
        (back - 1) (is_at (suc (back - 1)) e) (omega (arith, k.reach)) next (emitted (suc (back - 1)) e) k.kept.apart k.kept.rows_long k.kept.numbers_long k.kept.count (flipped_to back-of)
        (flipped-whole back-of) (flipped-is back-of)

    pub counted-less : (limit - (done + 1)) * step_weight + slack (box_of n (flipped_to back-of).lower (flipped_to back-of).upper) < (limit - done) * step_weight + slack (box_of n level.lower level.upper)
    unfolding core_over level_of
    counted-less = omega (arith, core-slack _ counted-on.fits r.counts.few, k.left)
