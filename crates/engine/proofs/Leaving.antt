-- The level above the one at depth `back`, and the decision that led from it.
use Prim.Native.Nat.{ℕ, suc, ◌-◌, ◌≤◌, ◌<◌}
use native.Mathlib.Omega.{arith}
use mathlib.Core.List.{List}
use mathlib.Core.Path.{◌≡◌, sym, subst}
use lib.Dec.{T}
use lib.ListN.{get_or, length}
use Rattle.model_problems.specs.Lists.{all_of}
use Rattle.model_problems.specs.Problem.{bounds_in_range}
use Rattle.model_walk.specs.Search as model
use Rattle.model_walk.specs.Move.{Move}
use Rattle.layout.specs.Rows.{box_of}
use Rattle.state.specs.View.{no_level, level_of, level_at}
use Rattle.state.specs.declared.Level.{Level}
use Rattle.state.specs.declared.Search.{Search}
use Rattle.turns.proofs.Running.{Propagates}
use Rattle.turns.proofs.Stored.{stored-range, stored-under}
use Rattle.engine.specs.Walk.{stored, outer, variable}
use Rattle.engine.specs.declared.given.Given.{Given}
use Rattle.engine.specs.declared.walk.Walk.{Walk}
use Rattle.engine.proofs.Going.{core_at}

module _ (g : Given) (s : Search) (w : Walk) (back : ℕ) {c : model.Core} {q : Move} {tally tally₁ : ℕ} (moved : Propagates c (core_at g s w w.level) q tally tally₁) (long : length s.levels ≡ 33) (deep : s.depth ≤ 32) (some : 1 ≤ back) (reach : back ≤ s.depth) where
  inside : s.depth < length s.levels
  inside = omega arith

  -- all the levels
  abbrev all : List Level
  all = (stored s w).levels

  pub decided-fits : variable (stored s w) back < g.n
  decided-fits =
      let e : back ≡ suc (back - 1) = omega arith in
      let h : (level_at g.n all (suc (back - 1))).decided < g.n = (stored-under g.thresholds g.divided.lines g.divided.divisors g.n g.m w.store.rows w.store.numbers s.levels w.store.made s.depth w.level inside moved.fits (back - 1) (omega arith)).variable in
      let k : (get_or all (suc (back - 1)) no_level).decided < g.n = unfold level_at level_of in h in
      subst (λ (b : ℕ). (get_or all b no_level).decided < g.n) (sym e) k

  pub outer-range : T (all_of bounds_in_range (box_of g.n (outer (stored s w) back).lower (outer (stored s w) back).upper))
  outer-range = unfold level_at level_of in stored-range g.thresholds g.divided.lines g.divided.divisors g.n g.m w.store.rows w.store.numbers s.levels w.store.made s.depth w.level inside moved.fits (back - 1) (omega arith)
