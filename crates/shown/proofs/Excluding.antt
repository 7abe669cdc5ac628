-- What striking out shows is N4's.
use Prim.Native.Nat.{ℕ, zero, suc, ◌<◌}
use native.Mathlib.Omega.{arith}
use mathlib.Core.Bool.{true, false}
use mathlib.Core.Path.{◌≡◌, refl, ap, ◌∙◌}
use Rattle.std.specs.Prelude.{Ok, Err}
use Rattle.problem.specs.declared.Refusal.TheVariants.{InvalidSearch}
use Rattle.problem.specs.Answer.{number, seen_by, shown_by}
use Rattle.model_walk.specs.Search as model
use Rattle.model_walk.specs.Conflict.{back_up}
use Rattle.model_walk.specs.Step.{with_status, checked}
use Rattle.model_walk.specs.Validity.{admitted}
use Rattle.model_walk.specs.Exclude.{Excluded as ModelExcluded, unchanged, struck, ended, unsolved, exclude_at, exclude_by, exclude, exclude_call}
use Rattle.state.specs.View.{core_over, core_of, status_of, view}
use Rattle.state.specs.declared.Search.{Search}
use Rattle.state.specs.declared.Status.{Status}
use Rattle.state.specs.declared.Status.TheVariants.{Undecided, Infeasible, Solved}
use Rattle.state.proofs.Cores.{length-levels}
use Rattle.shown.specs.declared.Exclusion.TheVariants.{Struck, Ended, Unsolved}
use Rattle.shown.specs.declared.Excluded.{Excluded}
use Rattle.shown.specs.Excluding.{exclusion_of, whole_in, seen_exclusion, seen_excluded, shown_exclusion, exclude_seen}

pub exclude-refused : (s : Search) → admitted (view s) ≡ false → seen_excluded (Err InvalidSearch) ≡ exclude_seen s
unfolding seen_excluded seen_by exclude_seen exclude_call shown_by checked number
exclude-refused s v = rw v refl

-- a state that the call takes
shown-as : (s : Search) (r : Excluded) (e : ModelExcluded) → admitted (view s) ≡ true → exclude (view s) ≡ e → seen_exclusion r ≡ shown_exclusion s e → seen_excluded (Ok r) ≡ exclude_seen s
unfolding seen_excluded seen_by exclude_seen exclude_call shown_by checked
shown-as s r e v q h = rw (v, q, h)

-- not marked as solved
unsolved-by : (s : Search) (m : Status) → (m ≡ Solved → ⊥) → exclude_by (status_of m) (view s) ≡ unchanged unsolved (view s)
unfolding exclude_by status_of
unsolved-by s Undecided h = refl
unsolved-by s Infeasible h = refl
unsolved-by s Solved h = absurd (h refl)

pub exclude-unsolved : (s : Search) → admitted (view s) ≡ true → (s.status ≡ Solved → ⊥) → seen_excluded (Ok (record { answer = Unsolved; state = s })) ≡ exclude_seen s
unfolding shown_exclusion seen_exclusion exclusion_of whole_in unchanged
exclude-unsolved s v h = shown-as s (record { answer = Unsolved; state = s }) (unchanged unsolved (view s)) v (unfold exclude view in unsolved-by s s.status h) refl

-- marked as solved
solved-at : (s : Search) → s.status ≡ Solved → exclude (view s) ≡ exclude_at s.depth (view s)
unfolding exclude exclude_by view core_of core_over status_of model.depth
solved-at s q = rw (q, length-levels s.n s.levels s.depth)

pub exclude-ended : (s : Search) → admitted (view s) ≡ true → s.status ≡ Solved → s.depth ≡ 0 → seen_excluded (Ok (record { answer = Ended; state = s })) ≡ exclude_seen s
unfolding shown_exclusion seen_exclusion exclusion_of whole_in unchanged
exclude-ended s v q z = shown-as s (record { answer = Ended; state = s }) (unchanged ended (view s)) v (solved-at s q ∙ ap (λ (d : ℕ). exclude_at d (view s)) z ∙ (unfold exclude_at unchanged in refl)) refl

struck-at : (d : ℕ) (t : model.Search) → 0 < d → exclude_at d t ≡ record { answer = struck; state = with_status t (back_up d t.core) model.undecided }
unfolding exclude_at
struck-at zero t h = let z : ⊥ = omega arith in absurd z
struck-at (suc d) t h = refl

pub exclude-struck : (s r : Search) → admitted (view s) ≡ true → s.status ≡ Solved → 0 < s.depth → view r ≡ with_status (view s) (back_up s.depth (view s).core) model.undecided →
    seen_excluded (Ok (record { answer = Struck; state = r })) ≡ exclude_seen s
unfolding shown_exclusion seen_exclusion exclusion_of whole_in
exclude-struck s r v q h e = shown-as s (record { answer = Struck; state = r }) _ v (solved-at s q ∙ struck-at s.depth (view s) h) (rw e refl)
