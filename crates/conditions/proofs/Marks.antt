-- The mark: the levels that it speaks of, its test in the terms of the state's arrays, and the bounds of a level that passed.
use Prim.Native.Nat.{ℕ, zero, suc, ◌+◌, ◌≤◌, ◌<◌}
use native.Mathlib.Omega.{arith}
use mathlib.Core.Bool.{Bool, true}
use mathlib.Core.List.{List, ◌∷◌}
use mathlib.Core.Logic.{⊎_elim}
use mathlib.Core.Path.{◌≡◌, refl, ap, ◌∙◌}
use lib.ListN.{length, get_or}
use Rattle.model_problems.specs.Lists.{tab, all_of, any_of}
use Rattle.model_problems.specs.Problem.{bounds_in_range}
use Rattle.model_walk.specs.Search as model
use Rattle.model_walk.specs.Validity.{reasons_valid, level_valid, levels_valid, falsifies, any_falsified, outermost, status_valid}
use Rattle.lists.proofs.Bools.{and-true, lt-or-le}
use Rattle.layout.specs.Rows.{box_of}
use Rattle.linear.specs.Ranges.{BoxFits}
use Rattle.linear.proofs.Ranges.{box-fits}
use Rattle.state.specs.View.{level_of, no_level, level_at, levels_from, kept_cuts, kept_at, inputs_of, core_of, core_over}
use Rattle.state.specs.declared.Level.{Level}
use Rattle.state.specs.declared.Search.{Search}
use Rattle.conditions.specs.Marks.{mark_valid}
use Rattle.conditions.proofs.Views.{kept-view}

outermost-is : (n : ℕ) (levels : List Level) (d : ℕ) → outermost (level_at n levels d) (levels_from n levels d) ≡ level_at n levels 0
unfolding outermost levels_from
outermost-is n levels zero = refl
outermost-is n levels (suc d) = outermost-is n levels d

passed-at : (t : model.Level → Bool) (n : ℕ) (levels : List Level) (d k : ℕ) → k ≤ d → all_of t (level_at n levels d ∷ levels_from n levels d) ≡ true → t (level_at n levels k) ≡ true
unfolding all_of levels_from
passed-at t n levels zero k l a = let z : k ≡ 0 = omega arith in rw z ((and-true (t (level_at n levels 0)) _ a).0)
passed-at t n levels (suc d) k l a =
    let both = and-true (t (level_at n levels (suc d))) _ a in
    ⊎_elim (λ (h : k < suc d). passed-at t n levels d k (omega arith) both.1) (λ (h : suc d ≤ k). let z : k ≡ suc d = omega arith in rw z both.0) (lt-or-le k (suc d))

module _ (s : Search) where
  pub outer-is : outermost (core_of s).deepest (core_of s).outer ≡ level_at s.n s.levels 0
  unfolding core_of core_over
  outer-is = outermost-is s.n s.levels s.depth

  pub box-passed : (d : ℕ) → d ≤ s.depth → levels_valid (core_of s) ≡ true → all_of bounds_in_range (level_at s.n s.levels d).box ≡ true
  unfolding levels_valid level_valid model.levels core_of core_over
  box-passed d l a =
      let last = length (inputs_of s) + s.made in
      let here = passed-at (level_valid last) s.n s.levels s.depth d l a in
      (and-true (all_of bounds_in_range (level_at s.n s.levels d).box) (all_of (reasons_valid last) (level_at s.n s.levels d).reasons) here).0

  pub level-fits : (d : ℕ) → d ≤ s.depth → levels_valid (core_of s) ≡ true → (l : Level) → l ≡ get_or s.levels d no_level → s.n ≤ length l.lower → s.n ≤ length l.upper →
      BoxFits s.n l.lower l.upper
  unfolding level_at level_of
  level-fits d i a l e = rw e (box-fits s.n _ _ (box-passed d i a))

  pub falsified-in : (l : Level) → any_falsified (core_of s) (level_of s.n l) ≡
      any_of (falsifies (box_of s.n l.lower l.upper)) (tab (kept_at s.n s.m s.rows s.divisors) 0 (s.m + kept_cuts s.made))
  unfolding any_falsified level_of
  falsified-in l = rw (kept-view s)

  pub mark-view : (m : model.Status) → status_valid (core_of s) m ≡
      (let outermost = get_or s.levels 0 no_level in
      let deepest = get_or s.levels s.depth no_level in
      mark_valid m (tab (kept_at s.n s.m s.rows s.divisors) 0 (s.m + kept_cuts s.made)) (box_of s.n outermost.lower outermost.upper) (box_of s.n deepest.lower deepest.upper))
  unfolding status_valid mark_valid
  mark-view model.undecided = refl
  mark-view model.infeasible = unfold level_at in (ap (any_falsified (core_of s)) outer-is ∙ falsified-in _)
  mark-view model.solved = unfold core_of core_over level_at level_of in (rw (falsified-in (get_or s.levels s.depth no_level)) refl)
