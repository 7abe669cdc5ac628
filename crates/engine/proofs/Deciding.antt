-- A decision, at the level where propagation stopped.
use Prim.Native.Nat.{ℕ, ◌+◌, ◌-◌, ◌*◌, ◌≤◌, ◌<◌}
use native.Mathlib.Omega.{arith}
use mathlib.Core.Bool.{Bool}
use mathlib.Core.List.{List}
use mathlib.Core.Path.{◌≡◌, refl, sym, ap}
use lib.IntN.{ℤ}
use lib.ListN.{get_or, set, length}
use Rattle.model_walk.specs.Search as model
use Rattle.model_walk.specs.Move.{slack}
use Rattle.layout.specs.Rows.{box_of}
use Rattle.state.specs.Change.{decided_at}
use Rattle.state.specs.declared.Level.{Level}
use Rattle.state.specs.declared.Search.{Search}
use Rattle.bits.specs.Divided.{FirstIndivisible, Testable}
use Rattle.propagate.specs.declared.propagate.Found.TheVariants.{Decide}
use Rattle.propagate.proofs.Steps.{scan-fits}
use Rattle.propagate.proofs.Tracking.{scan-box}
use Rattle.propagate.proofs.Warning.{testable}
use Rattle.backtrack.specs.Jumps.{Decidable, Decided, LevelSaved}
use Rattle.turns.proofs.Measures.{step_weight}
use Rattle.turns.proofs.Running.{Running, running-with, running-decides}
use Rattle.turns.proofs.Carrying.{Carried, clear-more}
use Rattle.turns.proofs.Due.{decided-warned}
use Rattle.turns.proofs.Rounds.{depth_small, ready, decided-here, decide-less, clear-here}
use Rattle.engine.specs.Walk.{Stopped}
use Rattle.engine.specs.declared.given.Given.{Given}
use Rattle.engine.specs.declared.walk.Walk.{Walk}
use Rattle.engine.proofs.Going.{found_with, at_decision, moved}

module _ {g : Given} {base : model.Search} {old : List ℕ} {keep : Bool} {now : List ℕ} {v : Walk} {tally : ℕ} {s : Search} {w : Walk} {i : ℕ} (p : Stopped g base old keep now v tally s w (Decide i)) where
  pub deep : s.depth ≤ 32
  deep = depth_small p.running

  pub variable-fits : i < g.n
  variable-fits = decided-here p.running w.level (found_with (Decide i) s.propagations) p.answered i (at_decision i)

  pub decidable : Decidable g.n g.m w.store.made w.store.rows w.level.lower w.level.upper i s.depth w.track.activities w.track.reaches w.saved.olds w.saved.limits w.saved.gones w.saved.counts
  decidable =
      record {
        inputs = p.running.counts.inputs;
        fits = scan-fits _ _ _ _ _ p.ready;
        lowers = p.ready.whole.lower;
        uppers = p.ready.whole.upper;
        tracked = p.tracked i refl;
        variable = variable-fits;
        deep = deep;
        room = p.carried.room;
      }

  -- the level of the decision
  module _ {to : Level} (e : to ≡ decided_at w.level i) {activities reaches : List ℤ} {r : ℕ} (d : Decided g.n g.m w.store.made w.store.rows w.level.lower w.level.upper w.level.above i s.depth to.upper to.above activities reaches r) where
    lower-stays : to.lower ≡ w.level.lower
    lower-stays = ap (λ (l : Level). l.lower) e

    pub running-on : Running base old w.left keep g.thresholds g.divided.lines g.divided.divisors g.n g.m g.budget now w.store.rows w.store.numbers (set s.levels s.depth w.level) w.store.made s.conflicts (s.depth + 1) to w.turn.before w.turn.start w.done w.turn.earlier s.propagations
    running-on = running-with (sym e) refl (running-decides p.running i w.level _ p.ready.whole (moved p _ (at_decision i)))

    pub testable-on : Testable g.n g.m g.divided.lines g.divided.divisors to.lower to.upper (get_or g.divided.columns i 0)
    testable-on =
        let r = running-on in
        testable _ _ _ _ _ _ _ _ r.apart r.counts.few r.counts.inputs (scan-box (scan-fits _ _ _ _ _ (ready r)) r.whole.lower r.whole.upper) (p.fixed.sorted.columns.at _ variable-fits).few

    pub carried-on : {told : ℕ} → FirstIndivisible g.n g.m g.divided.lines g.divided.divisors to.lower to.upper (get_or g.divided.columns i 0) r told →
        {olds limits : List ℤ} {gones counts : List ℕ} → LevelSaved g.n g.m w.store.made w.store.rows w.level.lower w.level.upper s.depth w.saved.olds w.saved.limits w.saved.gones w.saved.counts olds limits gones counts →
        Carried g.divided.lines g.divided.divisors w.low g.n g.m w.store.rows (set s.levels s.depth w.level) w.store.made (s.depth + 1) to.lower to.upper activities reaches told olds limits gones counts w.masks.inputs w.masks.cuts
    carried-on f l =
        let few = p.running.counts.few in
        let inside : s.depth < length s.levels = omega (arith, p.running.levels_long, deep) in
        let clear = clear-here p.running w.level (found_with (Decide i) s.propagations) p.answered i (at_decision i) in
        rw lower-stays
        (record {
          falsified = decided-warned _ _ _ _ _ _ w.level.lower w.level.upper _ _ p.running.apart i _ variable-fits _ d.bound _ _ _ (omega (arith, variable-fits, few, p.ready.whole.upper)) clear (p.fixed.sorted.columns.at i variable-fits) d.told (rw lower-stays at f);
          room = l.room;
          saved = l.saved s.levels w.level refl refl inside p.carried.saved;
          masks = p.carried.masks;
          clear = clear-more _ _ _ _ s.levels w.low s.depth w.level inside p.carried.clear clear;
        })

    -- the slack falls
    pub less-on : (room : ℕ) → (room - w.struck + (w.left - w.done)) * step_weight + slack (box_of g.n to.lower to.upper) < (room - v.struck + (v.left - v.done)) * step_weight + slack (box_of g.n v.level.lower v.level.upper)
    less-on room =
        let k = decide-less p.running w.level (found_with (Decide i) s.propagations) p.answered i (at_decision i) p.ready.whole in
        let s = p.same in
        rw (e, ← s.struck, ← s.left, ← s.done) (omega (arith, k))
