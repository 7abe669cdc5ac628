-- A conflict that is counted, at the level where propagation stopped.
use Prim.Native.Nat.{ℕ, ◌+◌, ◌-◌, ◌≤◌, ◌<◌}
use native.Mathlib.Omega.{arith}
use mathlib.Core.Bool.{Bool, true, false}
use mathlib.Core.List.{List}
use mathlib.Core.Path.{◌≡◌, refl, sym, ap, subst, ◌∙◌}
use lib.ListN.{set, length, length-set}
use Rattle.model_walk.specs.Search as model
use Rattle.lists.proofs.Bools.{clash}
use Rattle.state.specs.View.{status_of}
use Rattle.state.specs.Change.{Whole}
use Rattle.state.specs.declared.Search.{Search}
use Rattle.state.specs.declared.Status.TheVariants.{Infeasible}
use Rattle.propagate.specs.declared.propagate.Found.TheVariants.{Conflict}
use Rattle.backtrack.proofs.Saving.{saved-moved, saved-stored}
use Rattle.turns.proofs.Carrying.{clear-stored}
use Rattle.turns.proofs.Concluding.{countable}
use Rattle.turns.proofs.Counted.{Meets, meets, counted_none, counted-on, counted-less}
use Rattle.turns.proofs.Measures.{weighs-less}
use Rattle.turns.proofs.Rounds.{depth_small, ready, learnable}
use Rattle.engine.specs.Walk.{Fixed, Stopped, RunningAt, CountableAt, CountedOn, Learns, Leaves, GoneBack, outer, flipped, weight}
use Rattle.engine.specs.declared.given.Given.{Given}
use Rattle.engine.specs.declared.walk.Walk.{Walk}
use Rattle.engine.proofs.Going.{found_with, at_conflict, given_same, fixed-same, moved}
use Rattle.engine.proofs.Leaving.{decided-fits, outer-range}

-- the turn starts at the level in hand
abbrev pub started_here : Search → Walk → Walk
started_here s w = record w { turn = record { before = w.level; start = s.depth; earlier = s.propagations } }

module _ {g : Given} {base : model.Search} {old : List ℕ} {keep : Bool} {now : List ℕ} {v : Walk} {tally : ℕ} {s : Search} {w : Walk} {j : ℕ} (p : Stopped g base old keep now v tally s w (Conflict j)) (more : w.done < w.left) where
  pub countable-at : CountableAt g s w j keep now
  countable-at =
      countable p.running w.level j (moved p _ (at_conflict j)) _ p.carried.masks.cut_room more
      (learnable p.running w.level (found_with (Conflict j) s.propagations) p.answered j (at_conflict j) (p.ready.whole, p.ready.bounds))

  module _ (afford : s.conflicts < g.budget) {s₁ : Search} {x : Walk} {back : ℕ} {next : List ℕ} (l : Learns g s w s₁ x j keep now back next) where
    -- the state and the walk with what was learned
    abbrev kept : Search
    kept = record s { levels = set s.levels s.depth w.level; conflicts = s.conflicts + 1 }

    abbrev learned : Walk
    learned = record w { done = w.done + 1; store = x.store; masks = record { inputs = w.masks.inputs; cuts = x.masks.cuts } }

    met : Meets base old w.left keep g.thresholds g.divided.lines g.divided.divisors g.n g.m g.budget now w.store.rows w.store.numbers s.levels w.store.made s.conflicts s.depth v.level w.turn.before w.turn.start w.done w.turn.earlier tally w.level s.propagations back x.store.made x.store.rows
        x.store.numbers next
    met = meets p.running w.level j (moved p _ (at_conflict j)) more afford l.counted

    levels-long : length (set s.levels s.depth w.level) ≡ 33
    levels-long = length-set s.levels s.depth w.level ∙ p.running.levels_long

    pub none-on : back ≡ 0 → CountedOn g base old keep v (record s₁ { status = Infeasible }) (started_here s₁ x) next false
    unfolding status_of
    none-on z =
        subst (λ (y : Search). CountedOn g base old keep v (record y { status = Infeasible }) (started_here y x) next false) (sym l.state)
        (subst (λ (y : Walk). CountedOn g base old keep v (record kept { status = Infeasible }) (started_here kept y) next false) (sym l.is)
        (record {
          left = p.same.left;
          struck = p.same.struck;
          none = λ e. counted_none met z;
          ends = λ e. record {
            of_state = given_same p.fixed.of_state _ _ _ _ _;
            few = p.running.counts.few;
            inputs = p.running.counts.inputs;
            apart = met.kept.apart;
            rows_long = met.kept.rows_long;
            shallow = depth_small p.running;
            levels_long = levels-long;
          };
          on = λ e. clash e refl;
          less = λ e. clash e refl;
        }))

    module _ (some : 1 ≤ back) where
      pub leaves : Leaves g s₁ x back
      leaves =
          let r = p.running in
          let deep = depth_small r in
          let to = met.moved in
          let d = s.depth in
          let k = w.saved in
          subst (λ (y : Search). Leaves g y x back) (sym l.state)
          (subst (λ (y : Walk). Leaves g kept y back) (sym l.is)
          (record {
            sorted = p.fixed.sorted;
            few = r.counts.few;
            inputs = r.counts.inputs;
            deep = deep;
            levels_long = levels-long;
            some = some;
            reach = met.reach;
            decided = decided-fits g s w back to r.levels_long deep some met.reach;
            range = outer-range g s w back to r.levels_long deep some met.reach;
            ready = λ o. ready (counted-on met some o);
            apart = met.kept.apart;
            rows_long = met.kept.rows_long;
            activities_long = p.lengths.room;
            reaches_long = p.lengths.reach_room;
            room = p.carried.room;
            saved =
                saved-moved g.n g.m k.olds k.limits k.gones k.counts w.store.made x.store.made w.store.rows x.store.rows (set s.levels d w.level) d met.kept.shifted
                (saved-stored g.n g.m k.olds k.limits k.gones k.counts w.store.made w.store.rows s.levels d d w.level (omega arith) p.carried.saved);
            clear = clear-stored g.n g.m g.divided.lines g.divided.divisors s.levels w.low d w.level p.carried.clear;
            masks = l.counted.marked _ p.carried.masks;
          }))

      pub back-on : {s₂ : Search} {y : Walk} → GoneBack g s₁ x back s₂ y → CountedOn g base old keep v s₂ y next true
      back-on {s₂} {y} q =
          let state = λ (z : Search). record z { depth = back - 1 } in
          let walk = λ (z : Search) (u : Walk). record u { level = flipped g z back; low = y.low; turn = record { before = flipped g z back; start = back - 1; earlier = z.propagations }; track = y.track; told = y.told } in
          let a : s₂ ≡ state kept = q.state ∙ ap state l.state in
          let e : y ≡ walk kept learned = q.is ∙ ap (λ (z : Search). walk z x) l.state ∙ ap (walk kept) l.is in
          let o : Whole (outer kept back) = subst (λ (z : Search). Whole (outer z back)) l.state q.whole in
          let u = p.same in
          record {
            left = ap (λ (z : Walk). z.left) e ∙ u.left;
            struck = ap (λ (z : Walk). z.struck) e ∙ u.struck;
            none = λ k. clash refl k;
            ends = λ k. clash refl k;
            on =
                λ k.
                record {
                  fixed = subst (Fixed g) (sym a) (fixed-same p.fixed _ _ _ _);
                  running =
                      subst (λ (z : Search). RunningAt g base old keep next z y y.level z.propagations) (sym a)
                      (subst (λ (z : Walk). RunningAt g base old keep next (state kept) z z.level s.propagations) (sym e) (counted-on met some o));
                  carried = q.carried;
                };
            less = λ k room. subst (λ (z : Walk). weight g room z < weight g room v) (sym e) (rw (← u.struck, ← u.left, ← u.done) (weighs-less (room - w.struck) (w.left - (w.done + 1)) (w.left - w.done) _ _ (counted-less met some o)));
          }
