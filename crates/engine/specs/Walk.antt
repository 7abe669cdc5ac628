-- A call's walk at each step of its loop: where the turns have come, and where propagation stopped; going back to an earlier level; and the end. The state
-- is changed in place, but for the level in hand.
use Rattle.std.specs.Prelude.{ℕ, ◌+◌, ◌-◌, ◌*◌, ◌≤◌, ◌<◌, ◌^◌, Bool, true, false, List, ◌⊎◌, ◌≡◌, T, ℤ, pos, get_or, set, length, replicate}
use Rattle.model_problems.specs.Lists.{all_of}
use Rattle.model_problems.specs.Ranges.{max_variables, max_constraints, max_propagations}
use Rattle.model_problems.specs.Problem.{bounds_in_range}
use Rattle.model_walk.specs.Search as model
use Rattle.model_walk.specs.Move.{slack}
use Rattle.layout.specs.Rows.{box_of, max_rows, rows_length, thresholds_of}
use Rattle.state.specs.View.{flipped_reason, no_level, kept_cuts, number_for, level_of, status_of, view}
use Rattle.state.specs.Change.{Whole, raised}
use Rattle.state.specs.declared.Level.{Level}
use Rattle.state.specs.declared.Search.{Search}
use Rattle.state.specs.declared.Status.TheVariants.{Undecided}
use Rattle.bits.specs.Masks.{Masked}
use Rattle.propagate.specs.Apart.{kept_over, Apart, Warned}
use Rattle.propagate.specs.Propagation.{propagation, propagation_of}
use Rattle.propagate.specs.Ready.{Ready}
use Rattle.propagate.specs.Tracked.{ScanFits, Tracked}
use Rattle.propagate.specs.declared.track.Track.{Track}
use Rattle.propagate.specs.declared.propagate.Found.{Found}
use Rattle.propagate.specs.declared.propagate.Found.TheVariants.{Conflict, Decide, Finish}
use Rattle.backtrack.specs.Saved as saved
use Rattle.backtrack.specs.Saved.{Roomy}
use Rattle.backtrack.specs.declared.Saved.{Saved}
use Rattle.backtrack.specs.Jumps.{next_in}
use Rattle.conflict.specs.Counting.{Countable, Counted}
use Rattle.turns.specs.Advancing.{Starts}
use Rattle.turns.specs.declared.Ending.{Ending}
use Rattle.turns.specs.declared.Ending.TheVariants.{NoSolution, Solution}
use Rattle.turns.proofs.Measures.{step_weight}
use Rattle.turns.proofs.Running.{Running}
use Rattle.turns.proofs.Arms.{state_at, Reaches}
use Rattle.turns.proofs.Carrying.{ClearFrom, Carried}
use Rattle.turns.proofs.Striking.{Struck}
use Rattle.engine.specs.Given.{Sorted, GivenOf}
use Rattle.engine.specs.declared.given.Given.{Given}
use Rattle.engine.specs.declared.walk.Walk.{Walk}

-- ---- the turns of a call from the state `base`, with the buffer as it was then and as it is now
-- at a level in hand, with so many bounds counted
abbrev pub RunningAt : Given → model.Search → List ℕ → Bool → List ℕ → Search → Walk → Level → ℕ → Type 0
RunningAt g base old keep now s w level tally =
    Running base old w.left keep g.thresholds g.divided.lines g.divided.divisors g.n g.m g.budget now w.store.rows w.store.numbers s.levels w.store.made s.conflicts s.depth level w.turn.before w.turn.start w.done w.turn.earlier tally

-- what is kept of the constraints and the levels above
abbrev pub CarriedAt : Given → Search → Walk → Level → Track → Type 0
CarriedAt g s w level t =
    Carried g.divided.lines g.divided.divisors w.low g.n g.m w.store.rows s.levels w.store.made s.depth level.lower level.upper t.activities t.reaches w.told w.saved.olds w.saved.limits w.saved.gones w.saved.counts w.masks.inputs w.masks.cuts

-- what no turn changes
pub record Fixed (g : Given) (s : Search) : Type 0 where
  pub of_state : GivenOf s g
  pub sorted : Sorted g
  pub unmarked : s.status ≡ Undecided

-- on the way
pub record On (g : Given) (base : model.Search) (old : List ℕ) (keep : Bool) (now : List ℕ) (s : Search) (w : Walk) : Type 0 where
  pub fixed : Fixed g s
  pub running : RunningAt g base old keep now s w w.level s.propagations
  pub carried : CarriedAt g s w w.level w.track

-- from wherever the turns came
pub record Underway (g : Given) (s : Search) (w : Walk) : Type 0 where
  pub base : model.Search
  pub old : List ℕ
  pub keep : Bool
  pub now : List ℕ
  pub on : On g base old keep now s w

-- the counters of the turns and the strikes stay
pub record SameTurns (v w : Walk) : Type 0 where
  pub left : w.left ≡ v.left
  pub done : w.done ≡ v.done
  pub struck : w.struck ≡ v.struck

-- what the loop has left to do: each turn counts more than the slack of any box
abbrev pub weight : Given → ℕ → Walk → ℕ
weight g room w = (room - w.struck + (w.left - w.done)) * step_weight + slack (box_of g.n w.level.lower w.level.upper)

-- ---- where it begins: at a state's level, with nothing kept
abbrev pub fresh : Search → ℕ → Saved → Walk
fresh s limit saved =
    let level = get_or s.levels s.depth no_level in
    record {
      level = level;
      low = s.depth;
      turn = record { before = level; start = s.depth; earlier = s.propagations };
      left = limit;
      done = 0;
      struck = 0;
      store = record { rows = replicate 4224 (pos 0); numbers = replicate 64 0; made = 0 };
      track = record { activities = replicate 128 (pos 0); reaches = replicate 128 (pos 0) };
      told = 0;
      saved = saved;
      masks = record { inputs = replicate 64 0; cuts = replicate 64 0 };
    }

pub record Fresh (s : Search) (limit : ℕ) (w : Walk) : Type 0 where
  pub is : w ≡ fresh s limit w.saved
  pub room : Roomy w.saved.olds w.saved.limits w.saved.gones w.saved.counts
  pub gones : w.saved.gones ≡ replicate 33 0
  pub counts : w.saved.counts ≡ replicate 33 0
  pub levels_long : length s.levels ≡ 33
  pub whole : Whole (get_or s.levels s.depth no_level)

-- the constraints are scanned at the level in hand
pub record Scannable (g : Given) (w : Walk) : Type 0 where
  pub sorted : Sorted g
  pub inputs : g.m ≤ max_constraints
  pub fits : ScanFits g.n (g.m + kept_cuts w.store.made) w.store.rows w.level.lower w.level.upper
  pub rows_long : length w.store.rows ≡ rows_length
  pub apart : Apart g.n g.m w.store.rows g.divided.lines g.divided.divisors
  pub whole : Whole w.level
  pub activities_long : length w.track.activities ≡ max_rows
  pub reaches_long : length w.track.reaches ≡ max_rows

pub record Scanned (g : Given) (v w : Walk) : Type 0 where
  pub is : w ≡ record v { track = w.track; told = w.told; masks = w.masks }
  pub falsified : Warned (kept_over g.n g.m w.store.made w.store.rows g.divided.lines g.divided.divisors) g.n w.store.rows w.level.lower w.level.upper w.track.activities w.track.reaches (g.m + kept_cuts w.store.made) w.told
  pub masks : Masked g.n g.m (g.m + kept_cuts w.store.made) w.store.rows w.masks.inputs w.masks.cuts

pub record Begins (g : Given) (s : Search) (v w : Walk) : Type 0 where
  pub on : (keep : Bool) (room : ℕ) (buffer : List ℕ) (list : List ℤ) → Starts s v.left keep room buffer list → On g (view s) buffer keep buffer s w
  pub left : w.left ≡ v.left
  pub struck : w.struck ≡ 0

-- ---- propagation went from v, with so many bounds counted, to w, and stopped there
pub record Stopped (g : Given) (base : model.Search) (old : List ℕ) (keep : Bool) (now : List ℕ) (v : Walk) (tally : ℕ) (s : Search) (w : Walk) (f : Found) : Type 0 where
  pub fixed : Fixed g s
  pub running : RunningAt g base old keep now s w v.level tally
  pub carried : CarriedAt g s w v.level v.track
  pub answered : propagation_of g.n w.level (record { found = f; count = s.propagations }) ≡
      propagation (thresholds_of g.n g.thresholds) (kept_over g.n g.m w.store.made w.store.rows g.divided.lines g.divided.divisors) (number_for g.m w.store.made) (level_of g.n v.level) tally
  pub ready : Ready g.n g.m w.store.made w.store.rows w.level
  pub lengths : Tracked g.n w.store.rows w.level.lower w.level.upper w.track.activities w.track.reaches 0
  pub tracked : (i : ℕ) → f ≡ Decide i → Tracked g.n w.store.rows w.level.lower w.level.upper w.track.activities w.track.reaches (g.m + kept_cuts w.store.made)
  pub same : SameTurns v w

-- wherever the turns came from
abbrev pub Propagates : Given → Search → Walk → Search → Walk → Found → Type 0
Propagates g s v s₁ w f = (base : model.Search) (old : List ℕ) (keep : Bool) (now : List ℕ) → On g base old keep now s v → Stopped g base old keep now v s.propagations s₁ w f

pub record Halted (g : Given) (s : Search) (w : Walk) (f : Found) : Type 0 where
  pub base : model.Search
  pub old : List ℕ
  pub keep : Bool
  pub now : List ℕ
  pub from : Walk
  pub tally : ℕ
  pub stopped : Stopped g base old keep now from tally s w f

-- ---- a decision: from v, where propagation started, to w
pub record Decided (g : Given) (base : model.Search) (old : List ℕ) (keep : Bool) (now : List ℕ) (v : Walk) (s : Search) (w : Walk) : Type 0 where
  pub on : On g base old keep now s w
  pub same : SameTurns v w
  pub less : (room : ℕ) → weight g room w < weight g room v

abbrev pub Decides : Given → Search → Walk → ℕ → Search → Walk → Type 0
Decides g s w i s₁ w₁ =
    (base : model.Search) (old : List ℕ) (keep : Bool) (now : List ℕ) (v : Walk) (tally : ℕ) → Stopped g base old keep now v tally s w (Decide i) → Decided g base old keep now v s₁ w₁

-- ---- going back to the level above the one at depth `back`
-- the state with the level in hand stored
abbrev pub stored : Search → Walk → Search
stored s w = record s { levels = set s.levels s.depth w.level }

abbrev pub outer : Search → ℕ → Level
outer s back = get_or s.levels (back - 1) no_level

-- the decision that led from there
abbrev pub variable : Search → ℕ → ℕ
variable s back = (get_or s.levels back no_level).decided

abbrev pub flipped : Given → Search → ℕ → Level
flipped g s back = raised (outer s back) (variable s back) (next_in g.thresholds (outer s back).lower (variable s back)) flipped_reason

-- what it asks
pub record Leaves (g : Given) (s : Search) (w : Walk) (back : ℕ) : Type 0 where
  pub sorted : Sorted g
  pub few : g.n ≤ max_variables
  pub inputs : g.m ≤ max_constraints
  pub deep : s.depth ≤ max_variables
  pub levels_long : length s.levels ≡ 33
  pub some : 1 ≤ back
  pub reach : back ≤ s.depth
  pub decided : variable s back < g.n
  pub range : T (all_of bounds_in_range (box_of g.n (outer s back).lower (outer s back).upper))
  pub ready : Whole (outer s back) → Ready g.n g.m w.store.made w.store.rows (flipped g s back)
  pub apart : Apart g.n g.m w.store.rows g.divided.lines g.divided.divisors
  pub rows_long : length w.store.rows ≡ rows_length
  pub activities_long : length w.track.activities ≡ max_rows
  pub reaches_long : length w.track.reaches ≡ max_rows
  pub room : Roomy w.saved.olds w.saved.limits w.saved.gones w.saved.counts
  pub saved : saved.Saved g.n g.m w.store.made w.store.rows s.levels w.saved.olds w.saved.limits w.saved.gones w.saved.counts s.depth
  pub clear : ClearFrom g.n g.m g.divided.lines g.divided.divisors s.levels w.low s.depth
  pub masks : Masked g.n g.m (g.m + kept_cuts w.store.made) w.store.rows w.masks.inputs w.masks.cuts

pub record GoneBack (g : Given) (s : Search) (v : Walk) (back : ℕ) (s₁ : Search) (w : Walk) : Type 0 where
  pub whole : Whole (outer s back)
  pub state : s₁ ≡ record s { depth = back - 1 }
  pub is : w ≡ record v { level = flipped g s back; low = w.low; turn = record { before = flipped g s back; start = back - 1; earlier = s.propagations }; track = w.track; told = w.told }
  pub carried : CarriedAt g s₁ w w.level w.track

-- ---- a solution that is struck out, of those that there is room for
pub record Spare (room : ℕ) (keep : Bool) (s : Search) (w : Walk) : Type 0 where
  pub unkept : keep ≡ false
  pub place : w.struck < room
  pub some : 1 ≤ s.depth
  pub few : s.propagations ≤ max_propagations
  pub more : w.done < w.left

pub record Strikable (g : Given) (s : Search) (w : Walk) (solutions : List ℤ) : Type 0 where
  pub base : model.Search
  pub limit : ℕ
  pub room : ℕ
  pub list : List ℤ
  pub old : List ℕ
  pub keep : Bool
  pub now : List ℕ
  pub from : Walk
  pub tally : ℕ
  pub way : Struck base limit room g.n list w.left w.struck solutions (λ b. Stopped g b old keep now from tally s w Finish)
  pub spare : Spare room keep s w
  pub place : g.n * w.struck + g.n ≤ length solutions
  pub fits : room < 2 ^ 64

pub record StruckOut (g : Given) (base : model.Search) (limit room : ℕ) (list : List ℤ) (old : List ℕ) (keep : Bool) (now : List ℕ) (v : Walk) (s : Search) (w : Walk) (next : List ℤ) : Type 0 where
  pub way : Struck base limit room g.n list w.left w.struck next (λ b. On g b old keep now s w)
  pub less : weight g room w < weight g room v

abbrev pub StrikesOut : Given → Search → Walk → List ℤ → Search → Walk → List ℤ → Type 0
StrikesOut g s w solutions s₁ w₁ next =
    (base : model.Search) (limit room : ℕ) (list : List ℤ) (old : List ℕ) (keep : Bool) (now : List ℕ) (v : Walk) (tally : ℕ) →
    Struck base limit room g.n list w.left w.struck solutions (λ b. Stopped g b old keep now v tally s w Finish) → Spare room keep s w → StruckOut g base limit room list old keep now v s₁ w₁ next

-- ---- a conflict in constraint j that is counted
abbrev pub CountableAt : Given → Search → Walk → ℕ → Bool → List ℕ → Type 0
CountableAt g s w j keep now =
    Countable g.n g.m w.store.made j s.depth (s.conflicts + 1) w.done keep w.store.rows w.store.numbers (set s.levels s.depth w.level) g.divided.lines g.divided.divisors w.masks.cuts now

pub record Learns (g : Given) (s : Search) (v : Walk) (s₁ : Search) (w : Walk) (j : ℕ) (keep : Bool) (now : List ℕ) (back : ℕ) (next : List ℕ) : Type 0 where
  pub state : s₁ ≡ record s { levels = set s.levels s.depth v.level; conflicts = s.conflicts + 1 }
  pub is : w ≡ record v { done = v.done + 1; store = w.store; masks = record { inputs = v.masks.inputs; cuts = w.masks.cuts } }
  pub counted : Counted g.n g.m v.store.made j s.depth (s.conflicts + 1) v.done keep v.store.rows v.store.numbers (set s.levels s.depth v.level) g.divided.lines g.divided.divisors v.masks.cuts now back w.store.made w.store.rows w.store.numbers w.masks.cuts next

pub record Affordable (g : Given) (s : Search) (w : Walk) (j : ℕ) (keep : Bool) (now : List ℕ) : Type 0 where
  pub base : model.Search
  pub old : List ℕ
  pub from : Walk
  pub tally : ℕ
  pub stopped : Stopped g base old keep now from tally s w (Conflict j)
  pub more : w.done < w.left
  pub fits : w.left < 2 ^ 64
  pub afford : s.conflicts < g.budget

-- ---- the end
-- the state, with the level where the turn began
abbrev pub state_of : Given → Search → Walk → model.Search
state_of g s w = state_at g.thresholds g.divided.lines g.divided.divisors g.n g.m g.budget s.conflicts w.store.made w.turn.start (status_of s.status) w.store.rows w.store.numbers s.levels w.turn.before w.turn.earlier

pub record Endable (g : Given) (s : Search) (w : Walk) : Type 0 where
  pub of_state : GivenOf s g
  pub few : g.n ≤ max_variables
  pub inputs : g.m ≤ max_constraints
  pub apart : Apart g.n g.m w.store.rows g.divided.lines g.divided.divisors
  pub rows_long : length w.store.rows ≡ rows_length
  pub shallow : w.turn.start ≤ max_variables
  pub levels_long : length s.levels ≡ 33

-- a counted conflict: 'none', or back at an earlier level
pub record CountedOn (g : Given) (base : model.Search) (old : List ℕ) (keep : Bool) (v : Walk) (s : Search) (w : Walk) (next : List ℕ) (back : Bool) : Type 0 where
  pub left : w.left ≡ v.left
  pub struck : w.struck ≡ v.struck
  pub none : back ≡ false → Reaches base w.left keep NoSolution w.done (state_of g s w) old next
  pub ends : back ≡ false → Endable g s w
  pub on : back ≡ true → On g base old keep next s w
  pub less : back ≡ true → (room : ℕ) → weight g room w < weight g room v

abbrev pub Counts : Given → Search → Walk → ℕ → Bool → List ℕ → Search → Walk → List ℕ → Bool → Type 0
Counts g s w j keep now s₁ w₁ next back =
    (base : model.Search) (old : List ℕ) (v : Walk) (tally : ℕ) → Stopped g base old keep now v tally s w (Conflict j) → CountedOn g base old keep v s₁ w₁ next back

-- ---- the loop
pub record Runnable (g : Given) (s : Search) (w : Walk) (keep : Bool) (room : ℕ) (buffer : List ℕ) (solutions : List ℤ) : Type 0 where
  pub base : model.Search
  pub limit : ℕ
  pub list : List ℤ
  pub old : List ℕ
  pub way : Struck base limit room g.n list w.left w.struck solutions (λ b. On g b old keep buffer s w)
  pub unkept : keep ≡ true → room ≡ 0
  pub roomy : g.n * room ≤ length list
  pub fits : limit < 2 ^ 64

pub record Ran (g : Given) (base : model.Search) (limit room : ℕ) (list : List ℤ) (old : List ℕ) (keep : Bool) (s : Search) (w : Walk) (now : List ℕ) (solutions : List ℤ) (e : Ending) : Type 0 where
  pub way : Struck base limit room g.n list w.left w.struck solutions (λ b. Reaches b w.left keep e w.done (state_of g s w) old now)
  pub final : e ≡ Solution → (room - w.struck ≡ 0) ⊎ ((w.turn.start ≡ 0) ⊎ (max_propagations < w.turn.earlier))
  pub ends : Endable g s w

abbrev pub Runs : Given → Search → Walk → Bool → ℕ → List ℕ → List ℤ → Search → Walk → List ℕ → List ℤ → Ending → Type 0
Runs g s w keep room buffer solutions s₁ w₁ next list₁ e =
    (base : model.Search) (limit : ℕ) (list : List ℤ) (old : List ℕ) → Struck base limit room g.n list w.left w.struck solutions (λ b. On g b old keep buffer s w) → Ran g base limit room list old keep s₁ w₁ next list₁ e
