-- Every state that the code can hold has the shape that the model's validity is about: its view's lists are as long as its sizes say.
use Prim.Native.Nat.{ℕ, zero, suc, ◌+◌, ◌*◌, min}
use mathlib.Core.Bool.{true}
use mathlib.Core.List.{List, map}
use mathlib.Core.Path.{◌≡◌, refl, sym, subst, ◌∙◌}
use lib.Dec.{T, eqb, eqb_refl}
use lib.IntN.{ℤ}
use lib.ListN.{length, length-map}
use Rattle.model_problems.specs.Lists.{tab, all, all_of}
use Rattle.model_problems.specs.Ranges.{max_cuts}
use Rattle.model_problems.specs.Constraint.{modulus, is_inequality}
use Rattle.model_walk.specs.Search as model
use Rattle.model_walk.specs.Validity.{level_shaped, constraint_shaped, shaped}
use Rattle.lists.proofs.Bools.{true_of, T_of, and_both}
use Rattle.lists.proofs.Tab.{length-tab}
use Rattle.lists.proofs.All.{all-of}
use Rattle.lists.proofs.AllOf.{all_of-tab}
use Rattle.layout.specs.Rows.{constraint_at, row_at, divided_at, row_length}
use Rattle.layout.proofs.Rows.{length-box, length-coefficients}
use Rattle.state.specs.View.{reasons_in, level_of, level_at, levels_from, kept_cuts, kept_at, core_over, inputs_of, core_of}
use Rattle.state.specs.declared.Level.{Level}
use Rattle.state.specs.declared.Search.{Search}
use Rattle.state.proofs.Cores.{kept-over}

-- what owning an array of structs tells of its list
pub elements-kept : {X Y : Type 0} (g : X → Y) (l : List X) (n : ℕ) → length (map g l) ≡ n → length l ≡ n
elements-kept g l n e = sym (length-map l g) ∙ e

same : (m n : ℕ) → m ≡ n → eqb m n ≡ true
same m n e = subst (λ (k : ℕ). eqb m k ≡ true) e (true_of (eqb m m) (eqb_refl m))

pub level-shaped : (n : ℕ) (l : Level) → level_shaped n (level_of n l) ≡ true
unfolding level_shaped level_of
level-shaped n l = and_both (same _ n (length-box n l.lower l.upper)) (same _ n (length-tab (reasons_in l.below l.above) 0 n))

levels-shaped : (n : ℕ) (levels : List Level) (d : ℕ) → all_of (level_shaped n) (levels_from n levels d) ≡ true
unfolding all_of levels_from level_at
levels-shaped n levels zero = refl
levels-shaped n levels (suc d) = and_both (level-shaped n _) (levels-shaped n levels d)

kept-shaped : (n m : ℕ) (rows divisors : List ℤ) (count : ℕ) → all_of (constraint_shaped n) (tab (kept_at n m rows divisors) 0 count) ≡ true
unfolding constraint_shaped kept_at divided_at
kept-shaped n m rows divisors count =
    all_of-tab (constraint_shaped n) (kept_at n m rows divisors) 0 count ∙
    all-of (λ j. constraint_shaped n (kept_at n m rows divisors j)) count (λ j h. same _ n (unfold constraint_at in length-coefficients n rows (row_length * j)))

rows-plain : (n : ℕ) (rows : List ℤ) (i count : ℕ) → all_of is_inequality (tab (row_at n rows) i count) ≡ true
unfolding all_of tab is_inequality modulus row_at constraint_at
rows-plain n rows i zero = refl
rows-plain n rows i (suc count) = rows-plain n rows (suc i) count

pub view-shaped : (s : Search) → T (shaped (core_of s))
unfolding shaped core_of core_over all
view-shaped s =
    let n = s.n in
    let c = core_of s in
    let levels : all_of (level_shaped n) (model.levels c) ≡ true = unfold core_of core_over model.levels all_of level_at in and_both (level-shaped n _) (levels-shaped n s.levels s.depth) in
    let constraints : all_of (constraint_shaped n) (model.kept c) ≡ true = unfold core_of inputs_of in rw kept-over (kept-shaped n s.m s.rows s.divisors (s.m + kept_cuts s.made)) in
    let plain : all_of is_inequality c.cuts ≡ true = unfold core_of core_over in rows-plain n s.rows s.m (kept_cuts s.made) in
    let cuts : eqb (length c.cuts) (min c.made max_cuts) ≡ true = unfold core_of core_over kept_cuts in same _ _ (length-tab (row_at n s.rows) s.m (min s.made max_cuts)) in
    T_of (and_both levels (and_both constraints (and_both plain (and_both cuts refl))))
