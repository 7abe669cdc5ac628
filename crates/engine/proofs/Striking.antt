-- A solution that is struck out, at the level where propagation stopped.
use Prim.Native.Nat.{ℕ, ◌+◌, ◌-◌, ◌≤◌, ◌<◌}
use native.Mathlib.Omega.{arith}
use mathlib.Core.Bool.{Bool}
use mathlib.Core.List.{List}
use mathlib.Core.Path.{◌≡◌, sym, subst, ◌∙◌}
use lib.IntN.{ℤ}
use lib.ListN.{length, length-set}
use Rattle.model_walk.specs.Search as model
use Rattle.model_walk.specs.Move.{finish}
use Rattle.state.specs.Change.{Whole}
use Rattle.state.specs.declared.Search.{Search}
use Rattle.state.proofs.Moved.{rows_stay}
use Rattle.propagate.specs.declared.propagate.Found.TheVariants.{Finish}
use Rattle.backtrack.proofs.Saving.{saved-stored}
use Rattle.levels.specs.Struck.{ValuesPut}
use Rattle.turns.proofs.Carrying.{clear-stored}
use Rattle.turns.proofs.Returning.{Back}
use Rattle.turns.proofs.Striking.{Struck, struck_to, struck-out, struck-on, struck-less}
use Rattle.turns.proofs.Rounds.{depth_small, ready}
use Rattle.engine.specs.Walk.{Fixed, Stopped, Spare, StruckOut, On, RunningAt, Leaves, GoneBack, stored, outer, flipped, weight}
use Rattle.engine.specs.declared.given.Given.{Given}
use Rattle.engine.specs.declared.walk.Walk.{Walk}
use Rattle.engine.proofs.Going.{at_finish, fixed-same, moved}
use Rattle.engine.proofs.Leaving.{decided-fits, outer-range}

-- the walk with one strike more
abbrev pub struck_once : Walk → Walk
struck_once w = record w { struck = w.struck + 1; left = w.left - w.done; done = 0 }

module _ {g : Given} {base : model.Search} {limit room : ℕ} {list list₁ : List ℤ} {old : List ℕ} {keep : Bool} {now : List ℕ} {v : Walk} {tally : ℕ} {s : Search} {w : Walk}
    (u : Struck base limit room g.n list w.left w.struck list₁ (λ b. Stopped g b old keep now v tally s w Finish)) (h : Spare room keep s w) where
  abbrev p : Stopped g u.base old keep now v tally s w Finish
  p = u.here

  pub deep : s.depth ≤ 32
  deep = depth_small p.running

  back-of : Whole (outer (stored s w) s.depth) → Back g.thresholds g.divided.lines g.divided.divisors g.n g.m w.store.rows w.store.numbers s.levels w.store.made s.depth w.level s.depth w.store.made w.store.rows
  back-of o =
      record {
        few = p.running.counts.few;
        deep = deep;
        levels_long = p.running.levels_long;
        fits = (moved p finish at_finish).fits;
        some = h.some;
        reach = omega arith;
        shifted = rows_stay _ _ _ _;
        whole = o;
      }

  pub leaves : Leaves g (stored s w) (struck_once w) s.depth
  leaves =
      let r = p.running in
      let to = moved p finish at_finish in
      let d = s.depth in
      let k = w.saved in
      let all : d ≤ d = omega arith in
      record {
        sorted = p.fixed.sorted;
        few = r.counts.few;
        inputs = r.counts.inputs;
        deep = deep;
        levels_long = length-set s.levels d w.level ∙ r.levels_long;
        some = h.some;
        reach = all;
        decided = decided-fits g s w d to r.levels_long deep h.some all;
        range = outer-range g s w d to r.levels_long deep h.some all;
        ready = λ o. ready (struck-on u r s.propagations (back-of o) h.unkept h.few);
        apart = r.apart;
        rows_long = r.rows_long;
        activities_long = p.lengths.room;
        reaches_long = p.lengths.reach_room;
        room = p.carried.room;
        saved = saved-stored g.n g.m k.olds k.limits k.gones k.counts w.store.made w.store.rows s.levels d d w.level (omega arith) p.carried.saved;
        clear = clear-stored g.n g.m g.divided.lines g.divided.divisors s.levels w.low d w.level p.carried.clear;
        masks = p.carried.masks;
      }

  pub strikes : {next : List ℤ} → ValuesPut g.n w.struck w.level.lower list₁ next → length next ≡ length list₁ → {s₁ : Search} {y : Walk} → GoneBack g (stored s w) (struck_once w) s.depth s₁ y →
      StruckOut g base limit room list old keep now v s₁ y next
  strikes {next} put size {s₁} {y} q =
      let k = back-of q.whole in
      let to = flipped g (stored s w) s.depth in
      let state = record (stored s w) { depth = s.depth - 1 } in
      let walk = record (struck_once w) { level = to; low = y.low; turn = record { before = to; start = s.depth - 1; earlier = s.propagations }; track = y.track; told = y.told } in
      let a : s₁ ≡ state = q.state in
      let e : y ≡ walk = q.is in
      let t = p.same in
      let after = struck_to u p.running s.propagations k in
      let on : On g after old keep now s₁ y = record {
        fixed = subst (Fixed g) (sym a) (fixed-same p.fixed _ _ _ _);
        running =
            subst (λ (z : Search). RunningAt g after old keep now z y y.level z.propagations) (sym a)
            (subst (λ (z : Walk). RunningAt g after old keep now state z z.level s.propagations) (sym e) (struck-on u p.running s.propagations k h.unkept h.few));
        carried = q.carried;
      } in
      record {
        way =
            subst (λ (z : Walk). Struck base limit room g.n list z.left z.struck next (λ b. On g b old keep now s₁ y)) (sym e)
            (struck-out u p.running s.propagations k h.place h.few h.more (moved p finish at_finish) next put size on);
        less = subst (λ (z : Walk). weight g room z < weight g room v) (sym e) (rw (← t.struck, ← t.left, ← t.done) (struck-less u p.running s.propagations k h.unkept h.few h.place));
      }
