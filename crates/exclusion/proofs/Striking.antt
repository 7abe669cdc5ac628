-- Back from the deepest level of a valid state: what flipping its decision asks of the level above, and the state after it.
use Prim.Native.Nat.{ℕ, suc, ◌<◌}
use native.Mathlib.Omega.{arith}
use mathlib.Core.Bool.{true}
use mathlib.Core.List.{List}
use mathlib.Core.Path.{◌≡◌, sym, ap, ap₂, ◌∙◌}
use lib.Dec.{lit≤}
use lib.IntN.{ℤ, ◌-ℤ◌}
use lib.ListN.{get_or, set, length}
use Rattle.model_problems.specs.Lists.{all_of}
use Rattle.model_problems.specs.Ranges.{max_variables}
use Rattle.model_problems.specs.Constraint.{lower_at, upper_at}
use Rattle.model_problems.specs.Threshold.{threshold_at}
use Rattle.model_problems.specs.Problem.{bounds_in_range}
use Rattle.model_walk.specs.Search as model
use Rattle.model_walk.specs.Conflict.{back_up}
use Rattle.model_walk.specs.Step.{with_status}
use Rattle.integer.specs.Parts.{◌⊑◌, ◌⊏◌, abs-parts}
use Rattle.integer.specs.Size.{Within, weaken}
use Rattle.lists.proofs.Bools.{true_of}
use Rattle.linear.specs.Ranges.{widest_bound, widest_change}
use Rattle.linear.proofs.Ranges.{lower-within, upper-within}
use Rattle.layout.specs.Rows.{number_in, box_of, thresholds_of}
use Rattle.layout.proofs.Rows.{lower-at, upper-at}
use Rattle.state.specs.View.{flipped_reason, no_level, level_of, level_at, levels_from, core_over, inputs_of, core_of, status_of, view}
use Rattle.state.specs.Change.{Whole, raised}
use Rattle.state.specs.declared.Level.{Level}
use Rattle.state.specs.declared.Search.{Search}
use Rattle.state.specs.declared.Status.TheVariants.{Undecided}
use Rattle.state.proofs.Levels.{threshold-at, level-flipped}
use Rattle.state.proofs.Cores.{level-here, levels-above, backed-up}
use Rattle.validity.specs.Valid.{Valid}
use Rattle.validity.proofs.Boxes.{gap_parts}
use Rattle.validity.proofs.Thresholds.{Outside, outside-at, follows}
use Rattle.validity.proofs.States.{CoreFits, core-fits}
use Rattle.propagate.proofs.States.{sizes}
use Rattle.backtrack.specs.Jumps.{next_in}

-- o is the level above the deepest, at depth d
module _ (s : Search) (v : Valid (view s)) (d : ℕ) (e : s.depth ≡ suc d) (o : Level) (above : o ≡ get_or s.levels d no_level) where
  -- the variable that the deepest level decides
  abbrev i : ℕ
  i = (get_or s.levels s.depth no_level).decided

  abbrev thresholds : List ℤ
  thresholds = thresholds_of s.n s.thresholds

  fits : CoreFits (core_over thresholds (inputs_of s) s.n s.m s.made s.rows s.numbers (level_at s.n s.levels (suc d)) (levels_from s.n s.levels (suc d)))
  unfolding view core_of inputs_of
  fits = rw e at (core-fits (view s) v.shape v.tests)

  variable : i < s.n
  unfolding core_over levels_from level_at level_of
  variable = rw e fits.stacked.0.variable

  range : all_of bounds_in_range (box_of s.n o.lower o.upper) ≡ true
  unfolding core_over model.levels levels_from level_at level_of
  range = rw above (true_of _ fits.levels.1.0.range)

  -- the next value is at most the upper bound, which the variable may have
  next-below : next_in s.thresholds o.lower i ⊑ number_in o.upper i
  unfolding core_over model.levels levels_from level_at level_of
  next-below =
      let box = box_of s.n o.lower o.upper in
      let wide : lower_at box i ⊏ upper_at box i = rw (above, e) fits.stacked.0.wide in
      let outside : Outside thresholds box = rw above fits.outside.1.0 in
      rw (threshold-at s.n s.thresholds i variable, lower-at s.n o.lower o.upper i variable, upper-at s.n o.lower o.upper i variable) at
      ((follows (threshold_at thresholds i) (lower_at box i)).least (upper_at box i) (outside-at i thresholds box outside).1 wide)

  rise-small : Within widest_change (next_in s.thresholds o.lower i -ℤ number_in o.lower i)
  rise-small =
      let low = number_in o.lower i in
      let next = next_in s.thresholds o.lower i in
      let l = lower-within s.n o.lower o.upper range i variable in
      let u = upper-within s.n o.lower o.upper range i variable in
      let rises : low ⊑ next = omega (arith, (follows (number_in s.thresholds i) low).above) in
      record { within = omega (arith, gap_parts low next rises, next-below, l.within, u.within, abs-parts low, abs-parts (number_in o.upper i)) }

  pub flips : (i < max_variables) × ((Within widest_bound (number_in o.lower i)) × (Within widest_change (next_in s.thresholds o.lower i -ℤ number_in o.lower i)))
  flips = (omega (arith, variable, (sizes s v).few), (weaken (lit≤ tt) (lower-within s.n o.lower o.upper range i variable), rise-small))

  -- with the decision flipped
  module _ (flipped : Level) (b : flipped ≡ raised o i (next_in s.thresholds o.lower i) flipped_reason) (w : Whole o) where
    flipped-is : level_of s.n flipped ≡ model.flip_at thresholds (level_at s.n s.levels (suc d)).decided (level_at s.n s.levels d)
    flipped-is =
        let j : i ≡ (level_at s.n s.levels (suc d)).decided = unfold level_at level_of in ap (λ (k : ℕ). (get_or s.levels k no_level).decided) e in
        let q : level_of s.n o ≡ level_at s.n s.levels d = unfold level_at in ap (level_of s.n) above in
        rw b (level-flipped s.n o w (sizes s v).few s.thresholds i variable) ∙ ap₂ (model.flip_at thresholds) j q

    backed : core_over thresholds (inputs_of s) s.n s.m s.made s.rows s.numbers (level_of s.n flipped) (levels_from s.n s.levels d) ≡ back_up s.depth (core_of s)
    unfolding core_of inputs_of
    backed =
        ap (λ (x : model.Level). core_over thresholds (inputs_of s) s.n s.m s.made s.rows s.numbers x (levels_from s.n s.levels d)) flipped-is ∙
        sym (rw e (backed-up thresholds (inputs_of s) s.n s.m s.made s.rows s.numbers s.levels (suc d) d (omega arith)))

    pub struck : d < length s.levels →
        view (record {
          n = s.n;
          m = s.m;
          budget = s.budget;
          conflicts = s.conflicts;
          propagations = s.propagations;
          made = s.made;
          depth = d;
          status = Undecided;
          thresholds = s.thresholds;
          rows = s.rows;
          divisors = s.divisors;
          numbers = s.numbers;
          levels = set s.levels d flipped;
        }) ≡ with_status (view s) (back_up s.depth (view s).core) model.undecided
    unfolding view core_of inputs_of with_status status_of
    struck h =
        rw (level-here s.n s.levels d flipped h, levels-above s.n s.levels d d flipped (omega arith))
        (ap (λ (c : model.Core). record { core = c; budget = s.budget; conflicts = s.conflicts; propagations = s.propagations; status = model.undecided }) backed)
