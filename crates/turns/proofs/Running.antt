-- The loop's invariant: the state here is on the way that the model's turns take from the state at the start, and each arm of the loop keeps that.
use Prim.Native.Nat.{ℕ, suc, ◌+◌, ◌-◌, ◌*◌, ◌≤◌, ◌<◌}
use native.Mathlib.Omega.{arith}
use native.Mathlib.Numerals.{add-one}
use mathlib.Core.Bool.{Bool, true}
use mathlib.Core.List.{List}
use mathlib.Core.Path.{◌≡◌, refl, sym, ap, subst, ◌∙◌}
use lib.IntN.{ℤ, pos}
use lib.ListN.{get_or, set, length, length-set}
use Rattle.model_problems.specs.Ranges.{max_variables, max_constraints, max_budget, max_propagations, max_slack}
use Rattle.model_walk.specs.Search as model
use Rattle.model_walk.specs.Move.{Move, decide, moved, follow, slack, descend, propagations_by, propagations_in}
use Rattle.model_files.specs.Bytes.{block_length}
use Rattle.model_walk.specs.Trace.{with_blocks, advance, joined}
use Rattle.validity.proofs.Boxes.{first-open}
use Rattle.validity.proofs.Descent.{decided-slack}
use Rattle.validity.proofs.Moves.{Decides, Chosen}
use Rattle.validity.proofs.States.{CoreFits, depth-fits, deepest-ordered, decide-fits}
use Rattle.state.specs.View.{decision_reason, level_of, levels_from, core_over}
use Rattle.state.specs.Change.{Whole, decided_at}
use Rattle.propagate.specs.Apart.{core_apart, Apart}
use Rattle.state.specs.declared.Level.{Level}
use Rattle.state.proofs.Levels.{level-decided}
use Rattle.state.proofs.Cores.{level-here, levels-above, length-levels}
use Rattle.turns.specs.Advancing.{Buffered}

-- the sizes that no turn changes, and the counters
pub record Counts (n m budget conflicts made : ℕ) : Type 0 where
  pub some : 1 ≤ n
  pub few : n ≤ max_variables
  pub inputs : m ≤ max_constraints
  pub limited : budget ≤ max_budget
  pub afford : conflicts ≤ budget
  pub cuts : made ≤ conflicts

-- the state at the start of the turn
abbrev pub step_start : List ℤ → List ℤ → List ℤ → ℕ → ℕ → ℕ → ℕ → List ℤ → List ℕ → List Level → ℕ → Level → ℕ → ℕ → model.Search
step_start thresholds lines divisors n m budget conflicts rows numbers levels made before start earlier =
    record {
      core = core_apart thresholds n m made rows lines divisors numbers (level_of n before) (levels_from n levels start);
      budget = budget;
      conflicts = conflicts;
      propagations = earlier;
      status = model.undecided;
    }

-- the core with the level in hand
abbrev pub core_here : List ℤ → List ℤ → List ℤ → ℕ → ℕ → List ℤ → List ℕ → List Level → ℕ → ℕ → Level → model.Core
core_here thresholds lines divisors n m rows numbers levels made depth level = core_apart thresholds n m made rows lines divisors numbers (level_of n level) (levels_from n levels depth)

-- N5's count: `earlier` at the turn's start, `tally` here. What the turn still adds is what it adds from here on, and it stays far below what a word holds:
-- each conflict, and the turn that goes on, can add no more than the slack of any box.
pub record Tally (start here : model.Core) (conflicts earlier tally : ℕ) : Type 0 where
  pub same : earlier + propagations_in start ≡ tally + propagations_in here
  pub few : earlier ≤ max_propagations + conflicts * max_slack
  pub fits : tally + slack here.deepest.box ≤ earlier + max_slack

-- ---- the invariant
pub record Running (s : model.Search) (old : List ℕ) (limit : ℕ) (keep : Bool) (thresholds lines divisors : List ℤ) (n m budget : ℕ) (now : List ℕ) (rows : List ℤ) (numbers : List ℕ) (levels : List Level) (made conflicts depth : ℕ)
    (level before : Level) (start done earlier tally : ℕ) : Type 0 where
  pub counts : Counts n m budget conflicts made
  pub whole : Whole level
  pub whole_before : Whole before
  pub rows_long : length rows ≡ 4224
  pub numbers_long : length numbers ≡ 64
  pub levels_long : length levels ≡ 33
  pub thresholds_long : length thresholds ≡ 32
  pub apart : Apart n m rows lines divisors
  pub fits : CoreFits (core_here thresholds lines divisors n m rows numbers levels made depth level)
  pub from : start ≤ depth
  pub counted : Tally (step_start thresholds lines divisors n m budget conflicts rows numbers levels made before start earlier).core (core_here thresholds lines divisors n m rows numbers levels made depth level) conflicts earlier tally
  pub turn : descend (step_start thresholds lines divisors n m budget conflicts rows numbers levels made before start earlier).core ≡ descend (core_here thresholds lines divisors n m rows numbers levels made depth level)
  pub within : done ≤ limit
  pub blocks : List (List ℕ)
  pub many : length blocks ≡ done
  pub long : length (joined blocks) ≡ block_length * done
  pub room : keep ≡ true → block_length * limit ≤ length old
  pub ahead : advance limit s ≡ with_blocks blocks (advance (limit - done) (step_start thresholds lines divisors n m budget conflicts rows numbers levels made before start earlier))
  pub buffer : Buffered keep blocks old now

-- at an equal level
pub running-with : {s : model.Search} {old : List ℕ} {limit : ℕ} {keep : Bool} {thresholds lines divisors : List ℤ} {n m budget : ℕ} {now : List ℕ} {rows : List ℤ} {numbers : List ℕ} {levels : List Level} {made conflicts depth : ℕ}
    {l k a b : Level} {start done earlier tally : ℕ} → l ≡ k → a ≡ b → Running s old limit keep thresholds lines divisors n m budget now rows numbers levels made conflicts depth l a start done earlier tally →
    Running s old limit keep thresholds lines divisors n m budget now rows numbers levels made conflicts depth k b start done earlier tally
running-with e f r = rw (← e, ← f) r

-- ---- where propagation left the level, and the move that comes next
pub record Propagates (c d : model.Core) (m : Move) (tally tally₁ : ℕ) : Type 0 where
  pub fits : CoreFits d
  pub next : descend c ≡ follow m d descend
  pub chosen : Chosen (model.kept d) d.deepest.box m
  pub count : tally + propagations_in c ≡ tally₁ + propagations_by m d propagations_in
  pub less : tally₁ + slack d.deepest.box ≤ tally + slack c.deepest.box

-- a turn that starts: nothing of it is counted yet
pub starts-tally : (c : model.Core) (conflicts k : ℕ) → k ≤ max_propagations + conflicts * max_slack → slack c.deepest.box ≤ max_slack → Tally c c conflicts k k
starts-tally c conflicts k h l = record { same = refl; few = h; fits = omega arith }

-- where a turn ends, all its bounds are counted, and there is room for those of another
module _ {start c d : model.Core} {conflicts earlier tally tally₁ : ℕ} {m : Move} (t : Tally start c conflicts earlier tally) (p : Propagates c d m tally tally₁) where
  pub ends-tally : propagations_by m d propagations_in ≡ 0 → earlier + propagations_in start ≡ tally₁
  ends-tally z = omega (arith, t.same, p.count)

  pub counts-tally : tally₁ ≤ max_propagations + (conflicts + 1) * max_slack
  counts-tally = omega (arith, t.few, t.fits, p.less)

-- a decision sets none, and lowers the slack
decides-tally : {start c d : model.Core} {conflicts earlier tally tally₁ : ℕ} {i : ℕ} → Tally start c conflicts earlier tally → Propagates c d (decide i) tally tally₁ → Tally start (moved (decide i) d) conflicts earlier tally₁
unfolding propagations_by
decides-tally {d = d} {i = i} t p =
    record { same = t.same ∙ p.count; few = t.few; fits = omega (arith, t.fits, p.less, decided-slack d i (deepest-ordered d p.fits) p.chosen) }

-- ---- a decision
core-decided : (thresholds lines divisors : List ℤ) (n m made : ℕ) (rows : List ℤ) (numbers : List ℕ) (levels : List Level) (d i : ℕ) (l : Level) → Whole l → n ≤ 32 → i < n → d < length levels →
    model.with_levels (core_here thresholds lines divisors n m rows numbers levels made d l) (model.decide_at i (core_here thresholds lines divisors n m rows numbers levels made d l).deepest) (model.levels (core_here thresholds lines divisors n m rows numbers levels made d l)) ≡
    core_here thresholds lines divisors n m rows numbers (set levels d l) made (suc d) (decided_at l i)
unfolding model.with_levels core_over model.levels levels_from
core-decided thresholds lines divisors n m made rows numbers levels d i l w f h k =
    rw (level-decided n l w f i h, level-here n levels d l k, levels-above n levels d d l (omega arith))

-- the first open variable is one of the n
pub decided-variable : (c : model.Core) (i : ℕ) → CoreFits c → Decides (model.kept c) c.deepest.box i → i < c.variables
unfolding model.levels
decided-variable c i f d = omega (arith, (first-open i c.deepest.box d.first).at, f.levels.0.box)

whole-decided : (l : Level) (i : ℕ) → Whole l → Whole (decided_at l i)
whole-decided l i w =
    record { lower = w.lower; upper = length-set l.upper i (get_or l.lower i (pos 0)) ∙ w.upper; below = w.below; above = length-set l.above i decision_reason ∙ w.above }

pub depth-here : (thresholds lines divisors : List ℤ) (n m : ℕ) (rows : List ℤ) (numbers : List ℕ) (levels : List Level) (made depth : ℕ) (l : Level) → CoreFits (core_here thresholds lines divisors n m rows numbers levels made depth l) → depth ≤ n
depth-here thresholds lines divisors n m rows numbers levels made depth l f =
    let h : length (levels_from n levels depth) ≤ n = unfold model.depth core_over in depth-fits (core_here thresholds lines divisors n m rows numbers levels made depth l) f in
    omega (arith, length-levels n levels depth)

-- a store at or below the turn's start leaves the turn's start as it is
pub start-kept : (thresholds lines divisors : List ℤ) (n m budget conflicts : ℕ) (rows : List ℤ) (numbers : List ℕ) (levels : List Level) (made : ℕ) (before : Level) (start earlier d : ℕ) (l : Level) → start ≤ d →
    step_start thresholds lines divisors n m budget conflicts rows numbers (set levels d l) made before start earlier ≡ step_start thresholds lines divisors n m budget conflicts rows numbers levels made before start earlier
start-kept thresholds lines divisors n m budget conflicts rows numbers levels made before start earlier d l h = rw (levels-above n levels start d l h)

module _ {s : model.Search} {old : List ℕ} {limit : ℕ} {keep : Bool} {thresholds lines divisors : List ℤ} {n m budget : ℕ} {now : List ℕ} {rows : List ℤ} {numbers : List ℕ} {levels : List Level} {made conflicts depth : ℕ}
    {level before : Level} {start done earlier tally : ℕ} (r : Running s old limit keep thresholds lines divisors n m budget now rows numbers levels made conflicts depth level before start done earlier tally) where
  pub running-decides : (i : ℕ) (here : Level) (tally₁ : ℕ) → Whole here →
      Propagates (core_here thresholds lines divisors n m rows numbers levels made depth level) (core_here thresholds lines divisors n m rows numbers levels made depth here) (decide i) tally tally₁ →
      Running s old limit keep thresholds lines divisors n m budget now rows numbers (set levels depth here) made conflicts (depth + 1) (decided_at here i) before start done earlier tally₁
  running-decides i here tally₁ w p =
      let c = core_here thresholds lines divisors n m rows numbers levels made depth here in
      let v : i < n = unfold core_over in decided-variable c i p.fits p.chosen in
      let deep : depth < length levels = omega (arith, depth-here thresholds lines divisors n m rows numbers levels made depth here p.fits, r.counts.few, r.levels_long) in
      let e = core-decided thresholds lines divisors n m made rows numbers levels depth i here w r.counts.few v deep in
      let t = start-kept thresholds lines divisors n m budget conflicts rows numbers levels made before start earlier depth here r.from in
      rw add-one
      (record {
        counts = r.counts;
        whole = whole-decided here i w;
        whole_before = r.whole_before;
        rows_long = r.rows_long;
        numbers_long = r.numbers_long;
        levels_long = length-set levels depth here ∙ r.levels_long;
        thresholds_long = r.thresholds_long;
        apart = r.apart;
        fits = subst CoreFits e (decide-fits c i p.fits p.chosen);
        from = omega (arith, r.from);
        counted =
            subst (λ (x : model.Core). Tally x (core_here thresholds lines divisors n m rows numbers (set levels depth here) made (suc depth) (decided_at here i)) conflicts earlier tally₁) (sym (ap (λ (x : model.Search). x.core) t))
            (subst (λ (x : model.Core). Tally (step_start thresholds lines divisors n m budget conflicts rows numbers levels made before start earlier).core x conflicts earlier tally₁) e (decides-tally r.counted p));
        turn = ap (λ (x : model.Search). descend x.core) t ∙ r.turn ∙ p.next ∙ (unfold follow in ap descend e);
        within = r.within;
        blocks = r.blocks;
        many = r.many;
        long = r.long;
        room = r.room;
        ahead = r.ahead ∙ ap (λ (x : model.Search). with_blocks r.blocks (advance (limit - done) x)) (sym t);
        buffer = r.buffer;
      })
