-- Back at the level above, with its decision flipped.
use Prim.Native.Nat.{ℕ, ◌-◌, ◌≤◌, ◌<◌}
use native.Mathlib.Omega.{arith}
use mathlib.Core.Bool.{false}
use mathlib.Core.List.{List, []}
use mathlib.Core.Path.{◌≡◌, sym, ap, subst}
use lib.IntN.{ℤ, pos}
use lib.ListN.{get_or}
use Rattle.model_problems.specs.Constraint.{falsified}
use Rattle.layout.specs.Rows.{input_at, box_of}
use Rattle.state.specs.View.{flipped_reason}
use Rattle.state.specs.Change.{Whole, raised}
use Rattle.state.specs.declared.Level.{Level}
use Rattle.state.specs.declared.Search.{Search}
use Rattle.bits.specs.Divided.{Testable, FirstIndivisible}
use Rattle.propagate.specs.Tracked.{Tracked}
use Rattle.propagate.proofs.Steps.{scan-fits}
use Rattle.propagate.proofs.Warning.{testable}
use Rattle.backtrack.specs.Jumps.{Flippable, Flipped, next_in}
use Rattle.backtrack.proofs.Saving.{saved-less}
use Rattle.turns.proofs.Carrying.{Carried, tracked-none, clear-back}
use Rattle.turns.proofs.Due.{flipped-box, due-few, flipped-warned}
use Rattle.engine.specs.Walk.{Leaves, outer, variable, flipped}
use Rattle.engine.specs.declared.given.Given.{Given}
use Rattle.engine.specs.declared.walk.Walk.{Walk}

-- o and i are the level and the variable as the code holds them
module _ {g : Given} {s : Search} {w : Walk} {back : ℕ} (k : Leaves g s w back) (o : Level) (i : ℕ) (e : o ≡ outer s back) (f : i ≡ variable s back) (whole : Whole (outer s back)) where
  above : back - 1 < s.depth
  above = omega (arith, k.reach, k.some)

  fits : i < g.n
  fits = rw f k.decided

  pub inside : i < 32
  inside = omega (arith, fits, k.few)

  pub flippable : Flippable g.n g.m w.store.made g.thresholds w.store.rows o.lower o.upper i (back - 1) w.saved.olds w.saved.limits w.saved.gones w.saved.counts
  flippable =
      let next = k.ready whole in
      rw (e, f)
      (record {
        inputs = next.inputs;
        cuts = next.cuts;
        fits = record { few = next.few; count = (scan-fits _ _ _ _ _ next).count; constraints = next.constraints; bounds = k.range };
        next = scan-fits _ _ _ _ _ next;
        lowers = whole.lower;
        uppers = whole.upper;
        variable = k.decided;
        deep = omega (arith, k.deep, above);
        room = k.room;
        saved = k.saved.at (back - 1) above;
      })

  pub lengths : Tracked g.n w.store.rows o.lower o.upper w.track.activities w.track.reaches 0
  lengths = tracked-none _ _ _ _ _ _ k.rows_long k.activities_long k.reaches_long

  -- the level there
  module _ {to : Level} (q : to ≡ raised o i (next_in g.thresholds o.lower i) flipped_reason) where
    pub flipped-is : to ≡ flipped g s back
    flipped-is = rw (← e, ← f) q

    same : to.upper ≡ o.upper
    same = ap (λ (l : Level). l.upper) q

    module _ {activities reaches : List ℤ} {first : ℕ} (b : Flipped g.n g.m w.store.made g.thresholds w.store.rows o.lower o.upper o.below i to.lower to.below activities reaches first)
        {due : ℕ} (all : back - 1 < w.low → due ≡ g.divided.all) (part : w.low ≤ back - 1 → due ≡ get_or g.divided.columns i 0) where
      pub testable-back : Testable g.n g.m g.divided.lines g.divided.divisors to.lower to.upper due
      testable-back =
          rw same (testable _ _ _ _ _ _ _ _ k.apart k.few k.inputs (flipped-box flippable b.bound) (due-few _ _ 0 _ _ _ [] [] [] [] k.apart _ (pos 0) fits _ _ _ _ _ all part k.sorted.every (k.sorted.columns.at _ fits)))

      -- what the walk carries there
      pub carried-back : {told low : ℕ} → FirstIndivisible g.n g.m g.divided.lines g.divided.divisors to.lower to.upper due first told → (back - 1 ≤ w.low → low ≡ back - 1) → (w.low ≤ back - 1 → low ≡ w.low) →
          Carried g.divided.lines g.divided.divisors low g.n g.m w.store.rows s.levels w.store.made (back - 1) to.lower to.upper activities reaches told w.saved.olds w.saved.limits w.saved.gones w.saved.counts w.masks.inputs w.masks.cuts
      carried-back {low = low} d y z =
          let clear : w.low ≤ back - 1 → (j : ℕ) → j < g.m → falsified (input_at g.n g.divided.lines g.divided.divisors j) (box_of g.n o.lower o.upper) ≡ false =
          λ h j l. subst (λ (q : Level). falsified (input_at g.n g.divided.lines g.divided.divisors j) (box_of g.n q.lower q.upper) ≡ false) (sym e) (k.clear (back - 1) h above j l) in
          rw same
          (record {
            falsified = flipped-warned _ _ _ _ _ _ _ _ _ _ k.apart _ _ fits _ _ _ _ _ all part k.sorted.every (k.sorted.columns.at _ fits) _ b.bound _ _ (omega (arith, inside, flippable.lowers)) clear b.told (rw same at d);
            room = k.room;
            saved = saved-less g.n g.m w.saved.olds w.saved.limits w.saved.gones w.saved.counts w.store.made w.store.rows s.levels s.depth (back - 1) (omega (arith, above)) k.saved;
            masks = k.masks;
            clear = clear-back g.n g.m g.divided.lines g.divided.divisors s.levels w.low s.depth (back - 1) low above y z k.clear;
          })
