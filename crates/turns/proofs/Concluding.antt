-- A counted conflict: what the model makes of it, whether a cut is learned or a divisor constraint teaches nothing, and what it leaves of the rows.
use Prim.Native.Nat.{ℕ, suc, ◌+◌, ◌-◌, ◌≤◌, ◌<◌}
use native.Mathlib.Omega.{arith}
use mathlib.Core.Bool.{Bool}
use mathlib.Core.List.{List}
use mathlib.Core.Path.{◌≡◌, refl, sym, ap, ap₂, subst, ◌∙◌}
use lib.Dec.{T}
use lib.IntN.{ℤ, pos}
use lib.ListN.{get_or, set, length}
use lib.Seq.{get_or-set_same}
use Rattle.model_problems.specs.Lists.{tab}
use Rattle.model_problems.specs.Ranges.{max_cuts}
use Rattle.model_problems.specs.Constraint.{Constraint, modulus, falsified}
use Rattle.model_files.specs.File.{no_constraint}
use Rattle.model_walk.specs.Search as model
use Rattle.model_walk.specs.Move.{conflict}
use Rattle.model_walk.specs.Conflict.{analyze, numbered, backjump_level, nothing_learned, at_conflict}
use Rattle.lists.proofs.Bools.{true_of}
use Rattle.lists.proofs.Tab.{tab-ext-0, tab-const}
use Rattle.layout.specs.Rows.{number_in, cell, constraint_at, row_at, input_at, box_of, thresholds_of}
use Rattle.layout.proofs.Rows.{row_plain, constraint-eq}
use Rattle.validity.proofs.Blank.{Blanked, analyze-blanked, numbered-blanked}
use Rattle.validity.proofs.Tests.{nested-out}
use Rattle.state.specs.View.{no_level, level_of, level_at, levels_from, kept_cuts, dropped_cuts, divisor_for, core_over, core_with}
use Rattle.state.specs.declared.Level.{Level}
use Rattle.state.proofs.Cores.{level-here, levels-above}
use Rattle.state.specs.Moved.{RowsMoved}
use Rattle.levels.specs.Level.{box_at, LevelsNested, LeastFalsifying}
use Rattle.propagate.specs.Apart.{kept_over, core_apart, Apart}
use Rattle.propagate.proofs.Warning.{plain_row, divided-input, inputs-blanked, length_over, over-input, kept-plain}
use Rattle.state.proofs.Moved.{place-less, rows_stay}
use Rattle.conflict.specs.Counting.{Countable}
use Rattle.conflict.specs.Learning.{Learnable, LearnedFrom}
use Rattle.conflict.specs.declared.learn.Learned.{Learned}
use Rattle.conflict.proofs.Learning.{kept_row, cut-false}
use Rattle.turns.proofs.Backjumping.{backjump-found}
use Rattle.turns.proofs.Running.{Running, Propagates, core_here}
use Rattle.turns.proofs.Conflicting.{conflict_with, learned-is, dismissed-is}
use Rattle.turns.proofs.Rounds.{depth_small, same_length}
use Rattle.turns.proofs.Stored.{stored-range, stored-under}

-- ---- what a conflict leaves of the rows
pub record Keeps (n m made : ℕ) (rows lines divisors cut : List ℤ) (used : List ℕ) (made₁ : ℕ) (rows₁ : List ℤ) (numbers₁ : List ℕ) : Type 0 where
  pub apart : Apart n m rows₁ lines divisors
  pub cut_rest : (i : ℕ) → n < i → number_in cut i ≡ pos 0
  pub used_rest : (i : ℕ) → n ≤ i → get_or used i 0 ≡ 0
  pub rows_long : length rows₁ ≡ 4224
  pub numbers_long : length numbers₁ ≡ max_cuts
  pub count : made₁ ≤ suc made
  pub shifted : RowsMoved n m made made₁ rows rows₁

-- the inputs' rows stay
apart-moved : (n m made made₁ : ℕ) (rows rows₁ lines divisors : List ℤ) → Apart n m rows lines divisors → RowsMoved n m made made₁ rows rows₁ → Apart n m rows₁ lines divisors
apart-moved n m made made₁ rows rows₁ lines divisors a v =
    record {
      lines_long = a.lines_long;
      divisors_long = a.divisors_long;
      range = a.range;
      fits = a.fits;
      same = λ j h e. stays j h ∙ a.same j h e;
      blank = λ j h d. stays j h ∙ a.blank j h d;
    }
  where
    stays : (j : ℕ) → j < m → row_at n rows₁ j ≡ row_at n rows j
    stays j h =
        let p = place-less m (dropped_cuts made₁ - dropped_cuts made) j h in
        v.at j (omega arith) (omega (arith, p)) ∙ ap (row_at n rows) p

pub keeps-learned : (n m made : ℕ) (rows lines divisors : List ℤ) → Apart n m rows lines divisors → {numbers : List ℕ} {level : Level} {j : ℕ} {x : Learned} {made₁ : ℕ} {rows₁ : List ℤ} {numbers₁ : List ℕ} →
    LearnedFrom n m made rows numbers level j x made₁ rows₁ numbers₁ → Keeps n m made rows lines divisors x.cut x.used made₁ rows₁ numbers₁
keeps-learned n m made rows lines divisors a l =
    record {
      apart = apart-moved n m made _ rows _ lines divisors a l.moved;
      cut_rest = l.cut_rest;
      used_rest = l.used_rest;
      rows_long = l.rows_long;
      numbers_long = l.numbers_long;
      count = l.count;
      shifted = l.moved;
    }

pub keeps-dismissed : (n m made : ℕ) (rows : List ℤ) (numbers : List ℕ) (lines divisors cut : List ℤ) (used : List ℕ) → Apart n m rows lines divisors → length rows ≡ 4224 → length numbers ≡ max_cuts →
    ((i : ℕ) → number_in cut i ≡ pos 0) → ((i : ℕ) → get_or used i 0 ≡ 0) → Keeps n m made rows lines divisors cut used made rows numbers
keeps-dismissed n m made rows numbers lines divisors cut used a rl nl zc zu =
    record { apart = a; cut_rest = λ i h. zc i; used_rest = λ i h. zu i; rows_long = rl; numbers_long = nl; count = omega arith; shifted = rows_stay n m made rows }

-- zeros are nothing learned
zero-cut : (n : ℕ) (cut : List ℤ) → ((i : ℕ) → number_in cut i ≡ pos 0) → constraint_at n cut 0 ≡ (nothing_learned n).cut
unfolding constraint_at nothing_learned
zero-cut n cut z = constraint-eq (z 0) (tab-ext-0 (cell cut 0) (λ (k : ℕ). pos 0) n (λ k h. unfold cell in z (0 + 1 + k)) ∙ tab-const (pos 0) 0 n)

zero-used : (n : ℕ) (used : List ℕ) → ((i : ℕ) → get_or used i 0 ≡ 0) → tab (λ i. get_or used i 0) 0 n ≡ (nothing_learned n).used
unfolding nothing_learned
zero-used n used z = tab-ext-0 (λ (i : ℕ). get_or used i 0) (λ (k : ℕ). 0) n (λ k h. z k) ∙ tab-const {A = ℕ} 0 0 n

-- what is shown of a conflict, whether something was learned or not
pub record Facts (thresholds lines divisors : List ℤ) (n m : ℕ) (rows : List ℤ) (numbers : List ℕ) (levels : List Level) (made depth : ℕ) (here : Level) (j : ℕ) (cut : List ℤ) (used : List ℕ) (number back made₁ : ℕ) (rows₁ : List ℤ) (numbers₁ : List ℕ) : Type 0 where
  pub is : at_conflict (core_here thresholds lines divisors n m rows numbers levels made depth here) j ≡
      conflict_with (core_here thresholds lines divisors n m rows numbers levels made depth here) j (constraint_at n cut 0) (tab (λ i. get_or used i 0) 0 n) number back (core_here thresholds lines divisors n m rows₁ numbers₁ levels made₁ depth here)
  pub reach : back ≤ depth
  pub kept : Keeps n m made rows lines divisors cut used made₁ rows₁ numbers₁

-- ---- the level where a conflict is met
module _ {s : model.Search} {old : List ℕ} {limit : ℕ} {keep : Bool} {thresholds lines divisors : List ℤ} {n m budget : ℕ} {now : List ℕ} {rows : List ℤ} {numbers : List ℕ} {levels : List Level} {made conflicts depth : ℕ}
    {level before : Level} {start done earlier tally : ℕ} (r : Running s old limit keep thresholds lines divisors n m budget now rows numbers levels made conflicts depth level before start done earlier tally)
    {tally₁ : ℕ} (here : Level) (j : ℕ) (moved : Propagates (core_here thresholds lines divisors n m rows numbers levels made depth level) (core_here thresholds lines divisors n m rows numbers levels made depth here) (conflict j) tally tally₁) where
  -- the levels with the deepest stored
  abbrev all : List Level
  all = set levels depth here

  deep : depth < length levels
  deep = omega (arith, depth_small r, r.levels_long)

  -- the constraint that is met
  false-here : T (falsified (get_or (kept_over n m made rows lines divisors) j no_constraint) (box_of n here.lower here.upper))
  false-here = unfold core_over model.kept level_of in moved.chosen.false

  same-box : (t : ℕ) → box_at n all t ≡ (level_at n all t).box
  unfolding box_at level_at level_of
  same-box t = refl

  box-here : box_at n all depth ≡ box_of n here.lower here.upper
  unfolding box_at
  box-here = rw (get_or-set_same levels depth here no_level deep)

  levels-nested : LevelsNested n depth all
  levels-nested =
      record {
        range = λ t h. rw (same-box t) (stored-range thresholds lines divisors n m rows numbers levels made depth here deep moved.fits t h);
        inside = λ t h. rw (same-box (suc t), same-box t) (nested-out _ _ (stored-under thresholds lines divisors n m rows numbers levels made depth here deep moved.fits t h).inside);
      }

  -- the level that the search found
  pub level-is : (k : Constraint) (back : ℕ) → LeastFalsifying k n depth all back → backjump_level k (core_here thresholds lines divisors n m rows numbers levels made depth here) ≡ back
  level-is k back q =
      ap₂ (λ (l : model.Level) (ls : List model.Level). backjump_level k (core_apart thresholds n m made rows lines divisors numbers l ls))
      (sym (level-here n levels depth here deep)) (sym (levels-above n levels depth depth here (omega arith))) ∙
      backjump-found thresholds lines divisors n m made rows numbers all depth back k q.reach (λ t h. rw (← same-box t) (q.least t h)) (rw (← same-box back) q.falsifies)

  -- what counting it asks
  pub countable : (masks : List ℕ) → length masks ≡ max_cuts → done < limit → Learnable n m made rows numbers here j →
      Countable n m made j depth (conflicts + 1) done keep rows numbers all lines divisors masks now
  countable masks e h l =
      record {
        learnable = rw (get_or-set_same levels depth here no_level deep) l;
        apart = r.apart;
        deep = depth_small r;
        nested = levels-nested;
        false = rw box-here (true_of _ false-here);
        masked = e;
        some = omega arith;
        room = λ k. omega (arith, r.room k, same_length r);
      }

  -- ---- what the conflict is
  -- at an inequality
  module _ (plain : divisor_for m divisors j ≡ pos 0) (x : Learned) {made₁ : ℕ} {rows₁ : List ℤ} {numbers₁ : List ℕ} (l : LearnedFrom n m made rows numbers here j x made₁ rows₁ numbers₁) where
    abbrev cut : Constraint
    cut = constraint_at n x.cut 0

    position : j < m + kept_cuts made
    position =
        let at : j < length (kept_over n m made rows lines divisors) = unfold core_over model.kept in moved.chosen.at in
        omega (arith, length_over n m made rows lines divisors)

    own : get_or (kept_over n m made rows lines divisors) j no_constraint ≡ row_at n rows j
    own = kept-plain n m made rows lines divisors r.apart j position plain

    inequality : modulus (get_or (model.kept (core_here thresholds lines divisors n m rows numbers levels made depth here)) j no_constraint) ≡ 0
    inequality = unfold core_over model.kept in ap modulus own ∙ plain_row n rows j

    abbrev bare : model.Core
    bare = core_with n m made rows numbers (level_of n here) (levels_from n levels depth)

    blanked : Blanked (tab (input_at n lines divisors) 0 m) bare.inputs
    blanked = unfold core_over in inputs-blanked n m rows lines divisors r.apart

    analyzed : analyze (core_here thresholds lines divisors n m rows numbers levels made depth here) (get_or (model.kept (core_here thresholds lines divisors n m rows numbers levels made depth here)) j no_constraint) ≡
        record { cut = cut; used = tab (λ i. get_or x.used i 0) 0 n }
    analyzed =
        let c = core_here thresholds lines divisors n m rows numbers levels made depth here in
        let here-is : get_or (model.kept c) j no_constraint ≡ row_at n rows j = unfold core_over model.kept in own in
        let same : analyze c (row_at n rows j) ≡ analyze bare (row_at n rows j) = unfold core_over in analyze-blanked bare (thresholds_of n thresholds) (tab (input_at n lines divisors) 0 m) blanked (row_at n rows j) in
        ap (analyze c) here-is ∙ same ∙ ap (analyze bare) (sym (kept_row n m made rows numbers here (levels_from n levels depth) j position)) ∙ (l.learns (levels_from n levels depth)).analysis

    cut-falsified : T (falsified cut (level_of n here).box)
    cut-falsified = unfold level_of in cut-false r.counts.few l position (subst (λ (k : Constraint). T (falsified k (box_of n here.lower here.upper))) own false-here)

    numbers-it : numbered (core_here thresholds lines divisors n m rows numbers levels made depth here) cut ≡ record { number = x.number; core = core_here thresholds lines divisors n m rows₁ numbers₁ levels made₁ depth here }
    unfolding core_over
    numbers-it = numbered-blanked bare (thresholds_of n thresholds) (tab (input_at n lines divisors) 0 m) blanked cut (level_of n here).box (row_plain n x.cut 0) cut-falsified x.number _ (l.learns (levels_from n levels depth)).numbering

    pub is-learned : (back : ℕ) → LeastFalsifying cut n depth all back →
        at_conflict (core_here thresholds lines divisors n m rows numbers levels made depth here) j ≡
        conflict_with (core_here thresholds lines divisors n m rows numbers levels made depth here) j cut (tab (λ i. get_or x.used i 0) 0 n) x.number back (core_here thresholds lines divisors n m rows₁ numbers₁ levels made₁ depth here)
    is-learned back q =
        learned-is (core_here thresholds lines divisors n m rows numbers levels made depth here) j cut _ x.number back _ inequality analyzed numbers-it (level-is cut back q)

  -- at an input with a divisor
  pub is-dismissed : (cut : List ℤ) (used : List ℕ) (back : ℕ) → j < m → (number_in divisors j ≡ pos 0 → ⊥) → ((i : ℕ) → number_in cut i ≡ pos 0) → ((i : ℕ) → get_or used i 0 ≡ 0) →
      LeastFalsifying (input_at n lines divisors j) n depth all back →
      at_conflict (core_here thresholds lines divisors n m rows numbers levels made depth here) j ≡
      conflict_with (core_here thresholds lines divisors n m rows numbers levels made depth here) j (constraint_at n cut 0) (tab (λ i. get_or used i 0) 0 n) 0 back (core_here thresholds lines divisors n m rows numbers levels made depth here)
  unfolding core_over
  is-dismissed cut used back h d zc zu q =
      let c = core_here thresholds lines divisors n m rows numbers levels made depth here in
      let k = input_at n lines divisors j in
      let own : get_or (model.kept c) j no_constraint ≡ k = unfold core_over model.kept in over-input n m made rows lines divisors j h in
      let x = dismissed-is c j k back own (divided-input n lines divisors j d) (level-is k back q) in
      rw (zero-cut n cut zc, zero-used n used zu) x
