-- Where propagation stopped: what the next step can use.
use Prim.Native.Nat.{ℕ}
use mathlib.Core.Bool.{Bool}
use mathlib.Core.List.{List}
use mathlib.Core.Path.{◌≡◌, refl}
use Rattle.model_walk.specs.Search as model
use Rattle.model_walk.specs.Move.{Move, conflict, decide, finish}
use Rattle.propagate.specs.Moves.{stop_of}
use Rattle.propagate.specs.declared.propagate.Found.{Found}
use Rattle.propagate.specs.declared.propagate.Found.TheVariants.{Conflict, Decide, Finish}
use Rattle.propagate.specs.declared.propagate.Propagated.{Propagated}
use Rattle.state.specs.declared.Level.{Level}
use Rattle.state.specs.declared.Search.{Search}
use Rattle.state.specs.declared.Status.{Status}
use Rattle.turns.proofs.Running.{Propagates, core_here}
use Rattle.turns.proofs.Rounds.{propagates}
use Rattle.engine.specs.Given.{GivenOf}
use Rattle.engine.specs.Walk.{Fixed, Stopped}
use Rattle.engine.specs.declared.given.Given.{Given}
use Rattle.engine.specs.declared.walk.Walk.{Walk}

abbrev pub core_at : Given → Search → Walk → Level → model.Core
core_at g s w l = core_here g.thresholds g.divided.lines g.divided.divisors g.n g.m w.store.rows w.store.numbers s.levels w.store.made s.depth l

abbrev pub found_with : Found → ℕ → Propagated
found_with f k = record { found = f; count = k }

pub at_decision : (i : ℕ) → stop_of (Decide i) ≡ decide i
unfolding stop_of
at_decision i = refl

pub at_conflict : (j : ℕ) → stop_of (Conflict j) ≡ conflict j
unfolding stop_of
at_conflict j = refl

pub at_finish : stop_of Finish ≡ finish
unfolding stop_of
at_finish = refl

-- the same state, with another level in hand
pub given_same : {g : Given} {s : Search} → GivenOf s g → (levels : List Level) (conflicts propagations depth : ℕ) (status : Status) →
    GivenOf (record s { levels = levels; conflicts = conflicts; propagations = propagations; depth = depth; status = status }) g
given_same f levels conflicts propagations depth status = record { variables = f.variables; inputs = f.inputs; budget = f.budget; thresholds = f.thresholds; divisors = f.divisors }

pub fixed-same : {g : Given} {s : Search} → Fixed g s → (levels : List Level) (conflicts propagations depth : ℕ) → Fixed g (record s { levels = levels; conflicts = conflicts; propagations = propagations; depth = depth })
fixed-same f levels conflicts propagations depth = record { of_state = given_same f.of_state levels conflicts propagations depth _; sorted = f.sorted; unmarked = f.unmarked }

module _ {g : Given} {base : model.Search} {old : List ℕ} {keep : Bool} {now : List ℕ} {v : Walk} {tally : ℕ} {s : Search} {w : Walk} {f : Found} (p : Stopped g base old keep now v tally s w f) where
  pub moved : (q : Move) → stop_of f ≡ q → Propagates (core_at g s w v.level) (core_at g s w w.level) q tally s.propagations
  moved q e = propagates p.running w.level (found_with f s.propagations) p.answered q e
