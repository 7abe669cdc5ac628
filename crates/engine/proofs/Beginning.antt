-- Where a walk begins: a valid state that is not marked, with the rows of the divisor constraints blanked.
use Prim.Native.Nat.{ℕ}
use mathlib.Core.Bool.{Bool}
use mathlib.Core.List.{List}
use mathlib.Core.Path.{◌≡◌, refl, subst}
use lib.IntN.{ℤ, pos}
use lib.ListN.{get_or, length, replicate}
use Rattle.model_walk.specs.Search as model
use Rattle.layout.specs.Rows.{rows_length}
use Rattle.state.specs.View.{no_level, view}
use Rattle.state.specs.Change.{Whole}
use Rattle.state.specs.declared.Level.{Level}
use Rattle.state.specs.declared.Search.{Search}
use Rattle.turns.specs.Advancing.{Starts}
use Rattle.turns.specs.Setting.{RowsPut}
use Rattle.turns.proofs.Running.{Running}
use Rattle.turns.proofs.Starting.{running-starts, view-unmarked}
use Rattle.engine.specs.Given.{Taken}
use Rattle.engine.specs.declared.given.Given.{Given}

pub running-begins : {s : Search} {limit : ℕ} {keep : Bool} {room : ℕ} {buffer : List ℕ} {list : List ℤ} → Starts s limit keep room buffer list → {g : Given} → Taken s g → {rows : List ℤ} →
    RowsPut g.n g.m g.divided.divisors (replicate rows_length (pos 0)) s.rows rows → length s.rows ≡ rows_length → length s.divisors ≡ 64 → Whole (get_or s.levels s.depth no_level) →
    length s.numbers ≡ 64 → length s.levels ≡ 33 → length s.thresholds ≡ 32 → let l : Level = get_or s.levels s.depth no_level in
    Running (view s) buffer limit keep g.thresholds g.divided.lines g.divided.divisors g.n g.m g.budget buffer rows s.numbers s.levels s.made s.conflicts s.depth l l s.depth 0 s.propagations s.propagations
running-begins {s} {limit} {keep} {buffer = buffer} i {g} t {rows} p rl dl w nl ll tl =
    let l : Level = get_or s.levels s.depth no_level in
    let f = t.of_state in
    rw (← f.variables, ← f.inputs, ← f.budget, ← f.thresholds, ← f.divisors, t.rows)
    (subst (λ (x : model.Search). Running x buffer limit keep s.thresholds s.rows s.divisors s.n s.m s.budget buffer rows s.numbers s.levels s.made s.conflicts s.depth l l s.depth 0 s.propagations s.propagations)
    (view-unmarked s i.unmarked) (running-starts i rows (rw (← f.variables, ← f.inputs, ← f.divisors) at p) rl dl l refl w nl ll tl))
