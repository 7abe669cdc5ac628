-- Where the loop begins: a valid state that is not marked.
use Prim.Native.Nat.{ℕ, ◌-◌, ◌≤◌, ◌<◌}
use native.Mathlib.Omega.{arith}
use mathlib.Core.Bool.{Bool}
use mathlib.Core.List.{List, []}
use mathlib.Core.Path.{◌≡◌, refl, sym, ap, subst, ◌∙◌}
use lib.IntN.{ℤ, pos}
use lib.ListN.{get_or, set, length, replicate}
use Rattle.model_problems.specs.Lists.{tab}
use Rattle.model_problems.specs.Ranges.{max_constraints}
use Rattle.model_walk.specs.Search as model
use Rattle.model_walk.specs.Trace.{Trace, with_blocks, advance, joined}
use Rattle.lists.proofs.Tab.{length-tab}
use Rattle.layout.specs.Rows.{row_at, input_at, rows_length}
use Rattle.validity.proofs.States.{CoreFits, core-fits, sizes-fit}
use Rattle.state.specs.View.{no_level, level_of, level_at, levels_from, kept_cuts, core_over, inputs_of, core_of, status_of, view}
use Rattle.state.specs.Change.{Whole}
use Rattle.state.specs.declared.Level.{Level}
use Rattle.state.specs.declared.Search.{Search}
use Rattle.state.specs.declared.Status.{Status}
use Rattle.state.specs.declared.Status.TheVariants.{Undecided}
use Rattle.state.proofs.Cores.{level-here, levels-above}
use Rattle.propagate.specs.Apart.{core_apart, Apart}
use Rattle.propagate.proofs.States.{sizes}
use Rattle.turns.specs.Advancing.{Starts, Buffered}
use Rattle.turns.specs.Setting.{RowsPut}
use Rattle.turns.proofs.Measures.{core-slack}
use Rattle.turns.proofs.Running.{Counts, Running, step_start, core_here, starts-tally}
use Rattle.turns.proofs.Arms.{state_at}
use Rattle.turns.proofs.Blanking.{cuts-put, inputs-restored, apart-starts}

pub with_none : (t : Trace) → with_blocks [] t ≡ t
unfolding with_blocks
with_none t = refl

pub none_written : (keep : Bool) (buffer : List ℕ) → Buffered keep [] buffer buffer
unfolding joined
none_written keep buffer = record { written = λ k. refl; untouched = λ k. refl }

-- the state at the start, by its parts
abbrev pub start_of : Search → Search
start_of s =
    record { n = s.n; m = s.m; budget = s.budget; conflicts = s.conflicts; propagations = s.propagations; made = s.made; depth = s.depth; status = Undecided; thresholds = s.thresholds; rows = s.rows; divisors = s.divisors; numbers = s.numbers; levels = s.levels }

pub view-unmarked : (s : Search) → s.status ≡ Undecided → view (start_of s) ≡ view s
unfolding view core_of inputs_of
view-unmarked s e = rw e

-- the state at the start, with the rows of the divisor constraints blanked
start-step : (s : Search) (l : Level) (rows : List ℤ) → s.status ≡ Undecided → level_at s.n s.levels s.depth ≡ level_of s.n l →
    tab (row_at s.n rows) s.m (kept_cuts s.made) ≡ tab (row_at s.n s.rows) s.m (kept_cuts s.made) →
    view s ≡ step_start s.thresholds s.rows s.divisors s.n s.m s.budget s.conflicts rows s.numbers s.levels s.made l s.depth s.propagations
unfolding view core_of inputs_of core_over status_of
start-step s l rows u h e = rw (u, h, e)

module _ {s : Search} {limit : ℕ} {keep : Bool} {room : ℕ} {buffer : List ℕ} {list : List ℤ} (i : Starts s limit keep room buffer list) where
  start_fits : CoreFits (core_of s)
  unfolding view
  start_fits = core-fits (view s) i.valid.shape i.valid.tests

  pub start-counts : Counts s.n s.m s.budget s.conflicts s.made
  unfolding view core_of inputs_of core_over
  start-counts =
      let z = sizes-fit (view s) i.valid.tests in
      record { some = z.some; few = z.few; inputs = omega (arith, z.inputs, length-tab (input_at s.n s.rows s.divisors) 0 s.m); limited = z.budget; afford = z.conflicts; cuts = z.made }

  pub start-depth : s.depth < 33
  start-depth = (sizes s i.valid).shallow

  -- the rows with blanks, of the inputs that stand apart
  module _ (rows : List ℤ) (p : RowsPut s.n s.m s.divisors (replicate rows_length (pos 0)) s.rows rows) (rl : length s.rows ≡ rows_length) (dl : length s.divisors ≡ max_constraints) where
    pub start-apart : Apart s.n s.m rows s.rows s.divisors
    start-apart =
        apart-starts s.thresholds s.n s.m s.rows s.divisors rows p start-counts.inputs rl dl s.made s.numbers (level_at s.n s.levels s.depth) (levels_from s.n s.levels s.depth)
        (unfold core_of inputs_of in start_fits)

    start-here : (l : Level) → level_at s.n s.levels s.depth ≡ level_of s.n l → CoreFits (core_here s.thresholds s.rows s.divisors s.n s.m rows s.numbers s.levels s.made s.depth l)
    unfolding core_over
    start-here l h =
        rw (cuts-put s.n s.m s.made s.divisors _ s.rows rows p start-counts.inputs)
        (subst (λ (k : model.Level). CoreFits (core_apart s.thresholds s.n s.m s.made s.rows s.rows s.divisors s.numbers k (levels_from s.n s.levels s.depth))) h (unfold core_of inputs_of in start_fits))

    pub running-starts : (l : Level) → l ≡ get_or s.levels s.depth no_level → Whole l → length s.numbers ≡ 64 → length s.levels ≡ 33 → length s.thresholds ≡ 32 →
        Running (view (start_of s)) buffer limit keep s.thresholds s.rows s.divisors s.n s.m s.budget buffer rows s.numbers s.levels s.made s.conflicts s.depth l l s.depth 0 s.propagations s.propagations
    running-starts l e w nl ll tl =
        let h : level_at s.n s.levels s.depth ≡ level_of s.n l = unfold level_at in ap (level_of s.n) (sym e) in
        let z : limit - 0 ≡ limit = omega arith in
        rw (view-unmarked s i.unmarked)
        (record {
          counts = start-counts;
          whole = w;
          whole_before = w;
          rows_long = p.long;
          numbers_long = nl;
          levels_long = ll;
          thresholds_long = tl;
          apart = start-apart;
          fits = start-here l h;
          from = omega arith;
          counted = starts-tally _ s.conflicts s.propagations (omega (arith, i.few)) (core-slack _ (start-here l h) (unfold core_over in start-counts.few));
          turn = refl;
          within = omega arith;
          blocks = [];
          many = refl;
          long = unfold joined in refl;
          room = i.kept;
          ahead = rw z (ap (advance limit) (start-step s l rows i.unmarked h (cuts-put s.n s.m s.made s.divisors _ s.rows rows p start-counts.inputs)) ∙ sym (with_none _));
          buffer = none_written keep buffer;
        })

-- ---- the state at the end, with those rows put back
pub view-restored : (n m budget conflicts tally made depth : ℕ) (status : Status) (thresholds rows lines divisors after : List ℤ) (numbers : List ℕ) (levels : List Level) (l : Level) →
    Apart n m rows lines divisors → RowsPut n m divisors lines rows after → m ≤ max_constraints → depth < length levels →
    view (record { n = n; m = m; budget = budget; conflicts = conflicts; propagations = tally; made = made; depth = depth; status = status; thresholds = thresholds; rows = after; divisors = divisors; numbers = numbers; levels = set levels depth l }) ≡
    state_at thresholds lines divisors n m budget conflicts made depth (status_of status) rows numbers levels l tally
unfolding view core_of inputs_of core_over
view-restored n m budget conflicts tally made depth status thresholds rows lines divisors after numbers levels l a p few h =
    rw (inputs-restored n m rows lines divisors after a p few, cuts-put n m made divisors lines rows after p few, level-here n levels depth l h, levels-above n levels depth depth l (omega arith))
