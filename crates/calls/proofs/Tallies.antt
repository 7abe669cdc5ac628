-- N5's count, of the calls: what a list of them sets is what the model's calls set, and the limit is the state's own.
use Prim.Native.Nat.{ℕ, zero, suc, ◌+◌}
use native.Mathlib.Omega.{arith}
use mathlib.Core.Bool.{true, cond}
use mathlib.Core.List.{List, ◌∷◌}
use mathlib.Core.Path.{◌≡◌, refl, sym, ap, ◌∙◌}
use lib.Dec.{leb}
use Rattle.model_problems.specs.Ranges.{max_propagations}
use Rattle.model_walk.specs.Search as model
use Rattle.model_walk.specs.Validity.{valid, within_limit, admitted}
use Rattle.model_walk.specs.Step.{run}
use Rattle.model_walk.specs.Trace.{last_step}
use Rattle.model_walk.specs.Exclude.{exclude}
use Rattle.model_walk.specs.Propagations.{bounds_set}
use Rattle.model_claims.specs.Enumeration as list
use Rattle.model_claims.specs.Enumeration.{all_turns, strike, Answer, traced, excluded, taken, walk, turns_of, set_by, set_in}
use Rattle.soundness.proofs.Standing.{answered}
use Rattle.soundness.proofs.InPlace.{rounds, Ready}
use Rattle.state.specs.View.{view}
use Rattle.state.specs.declared.Search.{Search}
use Rattle.std.specs.Prelude.{Result}
use Rattle.problem.specs.declared.Refusal.{Refusal}
use Rattle.shown.specs.declared.Excluded.{Excluded}
use Rattle.calls.specs.Calls.{Call, stepped, traced as tracing, ran}
use Rattle.calls.specs.Listing as own
use Rattle.calls.specs.Listing.{called, turns_left, turns_in, set_in_runs}
use Rattle.calls.proofs.Replies.{asked}

-- a valid state is refused exactly where the count has passed its limit
pub limit : (x : Search) (m : model.Search) → view x ≡ m → valid m ≡ true → admitted m ≡ leb x.propagations max_propagations
unfolding admitted within_limit view
limit x m v h = rw h (ap (λ (s : model.Search). leb s.propagations max_propagations) (sym v))

-- ---- a call and a strike
pub call-sets : (c : Call) (s : model.Search) → cond (admitted s) (own.set_by (called c) s) 0 ≡ set_by (asked (called c)) s
unfolding own.set_by set_by asked turns_in turns_left turns_of
call-sets (stepped r) s = refl
call-sets (tracing old new r) s = refl
call-sets (ran q) s = refl

pub strike-sets : (e : Result Excluded Refusal) (s : model.Search) → cond (admitted s) (own.set_by (own.excluded e) s) 0 ≡ set_by strike s
unfolding own.set_by set_by turns_of bounds_set
strike-sets e s = refl

-- ---- runs with strikes between them
module _ (m : model.Search) where
  run-sets : (cs : List list.Call) → admitted (walk cs m) ≡ true → set_by all_turns (walk cs m) ≡ bounds_set (turns_left (walk cs m)) (walk cs m)
  unfolding set_by turns_of turns_left
  run-sets cs h = rw h

  none-set : (cs : List list.Call) → admitted (walk cs m) ≡ true → set_by strike (walk cs m) ≡ 0
  unfolding set_by turns_of bounds_set
  none-set cs h = rw h

  walk-struck : (cs : List list.Call) → admitted (walk cs m) ≡ true → admitted (walk (all_turns ∷ cs) m) ≡ true → walk (strike ∷ all_turns ∷ cs) m ≡ (exclude (run (walk cs m)).state).state
  unfolding walk taken traced excluded last_step
  walk-struck cs h k =
      ap (λ (a : Answer). a.state) (answered strike (walk (all_turns ∷ cs) m) k) ∙ ap (λ (a : Answer). (exclude a.state).state) (answered all_turns (walk cs m) h)

  pub runs-set : (k : ℕ) (cs : List list.Call) → Ready m k cs → set_in (all_turns ∷ rounds k cs) m ≡ set_in_runs k (walk cs m) + set_in cs m
  unfolding rounds set_in set_in_runs
  runs-set zero cs h = omega (arith, run-sets cs h)
  runs-set (suc k) cs h =
      omega (arith, runs-set k (strike ∷ all_turns ∷ cs) h.2, ap (set_in_runs k) (walk-struck cs h.0 h.1), none-set (all_turns ∷ cs) h.1, run-sets cs h.0)
