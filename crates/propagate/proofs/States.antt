-- For callers: propagation on the view of a search state. A valid state has what propagation asks, and its descent goes through what the code gives.
use Prim.Native.Nat.{ℕ, ◌+◌, ◌≤◌, ◌<◌}
use native.Mathlib.Omega.{arith}
use mathlib.Core.Bool.{true}
use mathlib.Core.List.{List}
use mathlib.Core.Logic.{⊎_elim}
use mathlib.Core.Path.{◌≡◌, refl, sym, ap, subst, ◌∙◌}
use lib.Dec.{T}
use lib.IntN.{ℤ, pos}
use lib.ListN.{length}
use Rattle.model_problems.specs.Lists.{tab, all_of}
use Rattle.model_problems.specs.Ranges.{within, max_variables, max_constraints, max_budget, max_coefficient}
use Rattle.model_problems.specs.Constraint.{in_range}
use Rattle.model_files.specs.File.{no_constraint}
use Rattle.model_problems.specs.Problem.{bounds_in_range}
use Rattle.model_walk.specs.Search as model
use Rattle.model_walk.specs.Move.{follow, descend, propagations_by, propagations_in}
use Rattle.lists.proofs.Bools.{true_of, T_of, lt-or-le}
use Rattle.lists.proofs.Tab.{length-tab, get_d-tab}
use Rattle.lists.proofs.AllOf.{all_of-get_d, all_of-of, all_of-replicate}
use Rattle.layout.specs.Rows.{number_in, row_at, input_at, box_of, thresholds_of}
use Rattle.state.specs.View.{level_of, levels_from, kept_cuts, core_over, core_of, number_for, view}
use Rattle.state.specs.Change.{Whole}
use Rattle.state.specs.declared.Level.{Level}
use Rattle.state.specs.declared.Search.{Search}
use Rattle.state.proofs.Cores.{number-over, length-levels}
use Rattle.validity.specs.Valid.{Valid}
use Rattle.validity.proofs.Every.{every-out}
use Rattle.validity.proofs.Moves.{Chosen}
use Rattle.validity.proofs.States.{ConstraintFits, CoreFits, core-fits, sizes-fit, depth-fits}
use Rattle.propagate.specs.Moves.{stop_of}
use Rattle.propagate.specs.Propagation.{Propagation, propagation, propagation_of}
use Rattle.propagate.specs.Ready.{kept_rows, Ready, GapFree}
use Rattle.propagate.specs.Apart.{kept_over, core_apart, blank_row, Apart}
use Rattle.propagate.specs.declared.propagate.Propagated.{Propagated}
use Rattle.propagate.proofs.Warning.{zero_or, length_over, over-cut}
use Rattle.validity.proofs.Thresholds.{outside-out}
use Rattle.propagate.proofs.Fuel.{Stopped}
use Rattle.propagate.proofs.Descent.{FitsAt, propagated, descent-propagated, count-propagated, propagated-stopped}

-- a blank is in range
blank-range : (n : ℕ) → in_range (blank_row n) ≡ true
unfolding in_range within
blank-range n = all_of-replicate (within max_coefficient) n (pos 0) refl

module _ (ts : List ℤ) (n m made : ℕ) (rows lines divisors : List ℤ) (numbers : List ℕ) (l : Level) (ls : List model.Level) (a : Apart n m rows lines divisors)
    (f : CoreFits (core_apart ts n m made rows lines divisors numbers (level_of n l) ls)) where
  -- the kept constraints are in range, and so are the rows with blanks
  over-range : all_of in_range (kept_over n m made rows lines divisors) ≡ true
  over-range =
      let c = core_apart ts n m made rows lines divisors numbers (level_of n l) ls in
      true_of _ (unfold core_over model.kept in every-out (ConstraintFits n) in_range (λ k h. h.range) (model.kept c) f.constraints)

  row-range : (j : ℕ) → j < m + kept_cuts made → in_range (row_at n rows j) ≡ true
  row-range j h =
      ⊎_elim
      (λ (i : j < m). ⊎_elim (λ e. rw (a.same j i e) (a.range j i)) (λ d. rw (a.blank j i d) (blank-range n)) (zero_or (number_in divisors j)))
      (λ (i : m ≤ j). rw (over-cut n m made rows lines divisors j i h) at
      (all_of-get_d in_range (kept_over n m made rows lines divisors) j no_constraint over-range (omega (arith, length_over n m made rows lines divisors))))
      (lt-or-le j m)

  state-range : T (all_of in_range (kept_rows n m made rows))
  state-range =
      let count = m + kept_cuts made in
      T_of (all_of-of in_range (tab (row_at n rows) 0 count) no_constraint (λ j h.
      let i : j < count = omega (arith, length-tab (row_at n rows) 0 count) in
      rw (get_d-tab (row_at n rows) count j no_constraint i) (row-range j i)))

  state-bounds : T (all_of bounds_in_range (box_of n l.lower l.upper))
  unfolding core_over model.levels level_of
  state-bounds = f.levels.0.range

  pub state-ready : n ≤ max_variables → m ≤ max_constraints → made ≤ max_budget → Whole l → Ready n m made rows l
  state-ready few inputs cuts w = record { few = few; inputs = inputs; cuts = cuts; whole = w; constraints = state-range; bounds = state-bounds }

  pub state-gap-free : length ts ≡ 32 → GapFree n ts l.lower l.upper
  unfolding core_over model.levels level_of
  state-gap-free long = record { long = long; outside = outside-out (thresholds_of n ts) (box_of n l.lower l.upper) f.outside.0 }

  module _ (k : Level) (count : ℕ) (found : Propagated) (e : propagation_of n k found ≡ propagation (thresholds_of n ts) (kept_over n m made rows lines divisors) (number_for m made) (level_of n l) count) where
    state-propagated : propagated (core_apart ts n m made rows lines divisors numbers (level_of n l) ls) count ≡ propagation_of n k found
    unfolding core_over model.kept
    state-propagated =
        ap (λ (number : ℕ → ℕ). propagation (thresholds_of n ts) (kept_over n m made rows lines divisors) number (level_of n l) count)
        (number-over (thresholds_of n ts) (tab (input_at n lines divisors) 0 m) n m made rows numbers (level_of n l) ls (length-tab (input_at n lines divisors) 0 m)) ∙ sym e

    pub state-descent : descend (core_apart ts n m made rows lines divisors numbers (level_of n l) ls) ≡
        follow (stop_of found.found) (core_apart ts n m made rows lines divisors numbers (level_of n k) ls) descend
    unfolding core_over model.with_deepest model.with_levels propagation_of
    state-descent =
        let c = core_apart ts n m made rows lines divisors numbers (level_of n l) ls in
        subst (λ (p : Propagation). descend c ≡ follow p.move (model.with_deepest c p.level) descend) state-propagated (descent-propagated c count f)

    pub state-count : count + propagations_in (core_apart ts n m made rows lines divisors numbers (level_of n l) ls) ≡
        found.count + propagations_by (stop_of found.found) (core_apart ts n m made rows lines divisors numbers (level_of n k) ls) propagations_in
    unfolding core_over model.with_deepest model.with_levels propagation_of
    state-count =
        let c = core_apart ts n m made rows lines divisors numbers (level_of n l) ls in
        subst (λ (p : Propagation). count + propagations_in c ≡ p.count + propagations_by p.move (model.with_deepest c p.level) propagations_in) state-propagated (count-propagated c count f)

    state-stopped : Stopped (kept_over n m made rows lines divisors) (λ l₁ d. FitsAt (core_apart ts n m made rows lines divisors numbers (level_of n l) ls) l₁) (propagation_of n k found)
    unfolding core_over model.kept
    state-stopped =
        let c = core_apart ts n m made rows lines divisors numbers (level_of n l) ls in
        subst (Stopped (kept_over n m made rows lines divisors) (λ l₁ d. FitsAt c l₁)) state-propagated (propagated-stopped c count f)

    pub state-fits : CoreFits (core_apart ts n m made rows lines divisors numbers (level_of n k) ls)
    unfolding core_over model.with_deepest model.with_levels propagation_of
    state-fits = state-stopped.holds

    pub state-chosen : Chosen (kept_over n m made rows lines divisors) (box_of n k.lower k.upper) (stop_of found.found)
    unfolding propagation_of level_of
    state-chosen = state-stopped.chosen

-- ---- the sizes of a valid state
pub record SizesFit (s : Search) : Type 0 where
  pub some : 1 ≤ s.n
  pub few : s.n ≤ 32
  pub shallow : s.depth < 33
  pub afford : s.conflicts ≤ s.budget
  pub limited : s.budget ≤ 1000000000

pub sizes : (s : Search) → Valid (view s) → SizesFit s
unfolding view core_of core_over
sizes s v =
    let z = sizes-fit (view s) v.tests in
    let d : length (levels_from s.n s.levels s.depth) ≤ s.n =
    unfold view model.depth core_of core_over in depth-fits (view s).core (core-fits (view s) v.shape v.tests) in
    record { some = z.some; few = z.few; shallow = omega (arith, d, z.few, length-levels s.n s.levels s.depth); afford = z.conflicts; limited = z.budget }
