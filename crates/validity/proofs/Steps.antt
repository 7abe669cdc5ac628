-- A step on every valid state, made-up ones too: it leaves a valid state, and a run from there ends.
use Prim.Native.Nat.{ℕ, zero, suc, ◌+◌, ◌-◌, ◌≤◌, ◌<◌}
use native.Mathlib.Omega.{arith}
use mathlib.Core.Bool.{Bool, true, false, not, ◌||◌, cond}
use mathlib.Core.List.{List, [], ◌∷◌}
use mathlib.Core.Option.{Option, none, some}
use mathlib.Core.Path.{◌≡◌, refl, subst, ◌∙◌}
use lib.Dec.{T, eqb, eqb→eq, eqb_refl}
use lib.IntN.{pos}
use lib.ListN.{length, get_or, drop, replicate, length-replicate}
use lib.Signed.{lt_z}
use Rattle.model_problems.specs.Lists.{all_of, any_of}
use Rattle.model_problems.specs.Ranges.{within, max_coefficient}
use Rattle.model_problems.specs.Constraint.{Constraint, Box, modulus, is_open, falsified, in_range}
use Rattle.model_files.specs.File.{no_constraint}
use Rattle.model_walk.specs.Search.{Level, Core, Status, undecided, infeasible, solved, Search, depth, levels, with_levels, with_deepest, kept}
use Rattle.model_walk.specs.Move.{next_move, follow, slack, descend, propagations_by, propagations_in}
use Rattle.model_walk.specs.Conflict.{Analysis, Numbered, Conflict, analyze, numbered, backjump_level, back_from, back_up, settled, conflict_of, learning, nothing_learned, no_learning, conflict_by, at_conflict}
use Rattle.model_walk.specs.Validity.{falsifies, any_falsified, outermost, status_valid}
use Rattle.model_walk.specs.Step.{Verdict, go_on, no_solution, out_of_budget, solution, Outcome, block_in, propagated, solved_by, budget_spent, status_at, counted, on_conflict, ended_at, ended, again, step_by, step, continue, run_for, without_block, run}
use Rattle.integer.specs.Parts.{nlt-out}
use Rattle.integer.specs.Tests.{and_in}
use Rattle.lists.proofs.Bools.{true_of, T_of}
use Rattle.lists.proofs.AnyOf.{any_of-get_d}
use Rattle.validity.specs.Valid.{Valid}
use Rattle.validity.proofs.Boxes.{Fixed}
use Rattle.validity.proofs.Constraints.{Inequality}
use Rattle.validity.proofs.Moves.{Clear, Falsifies, Finishes}
use Rattle.validity.proofs.States.{ConstraintFits, CoreFits, Sizes, core-fits, sizes-fit, fits-shaped, fits-valid, deepest-ordered, deepest-outside, raise-fits, lower-fits, decide-fits}
use Rattle.validity.proofs.Conflicts.{analyze-learned, Keeps, keeps-all, numbered-keeps, numbered-fits, numbered-falsifies, Back, backjump-back, back-outermost, back_fits}
use Rattle.validity.proofs.Descent.{EndsAt, Ended, descend-keeps, descend-next, propagations-next, propagations-few}

-- ---- moves 2 and 3: the state stays valid, with the same sizes
pub record Along (c d : Core) : Type 0 where
  pub fits : CoreFits d
  pub variables : d.variables ≡ c.variables
  pub inputs : d.inputs ≡ c.inputs
  pub made : d.made ≡ c.made

pub descend-along : (c : Core) → CoreFits c → Ended (Along c) (descend c)
descend-along c f =
    descend-keeps (Along c) (λ d a. deepest-ordered d a.fits) (λ d a. deepest-outside d a.fits)
    (λ d j i v a m. unfold with_deepest with_levels in record { fits = raise-fits d j i v a.fits m; variables = a.variables; inputs = a.inputs; made = a.made })
    (λ d j i v a m. unfold with_deepest with_levels in record { fits = lower-fits d j i v a.fits m; variables = a.variables; inputs = a.inputs; made = a.made })
    (λ d i a m. unfold with_levels in record { fits = decide-fits d i a.fits m; variables = a.variables; inputs = a.inputs; made = a.made })
    c (record { fits = f; variables = refl; inputs = refl; made = refl })

-- the descent from a valid state is its next move and the descent from there
pub descent-next : (c : Core) → CoreFits c → descend c ≡ follow (next_move (kept c) c.deepest.box) c descend
descent-next c f = descend-next CoreFits deepest-ordered deepest-outside raise-fits lower-fits decide-fits c f

-- and so are its moves 2
pub moves_next : (c : Core) → CoreFits c → propagations_in c ≡ propagations_by (next_move (kept c) c.deepest.box) c propagations_in
moves_next c f = propagations-next CoreFits deepest-ordered deepest-outside raise-fits lower-fits decide-fits c f

pub moves-few : (c : Core) → CoreFits c → propagations_in c ≤ slack c.deepest.box
moves-few c f = propagations-few CoreFits deepest-ordered deepest-outside raise-fits lower-fits decide-fits c f

-- ---- a conflict
-- what a conflict in position j gives
pub record Settled (c : Core) (x : Conflict) : Type 0 where
  pub fits : CoreFits x.core
  pub cut : ConstraintFits c.variables x.cut
  pub inequality : Inequality x.cut
  pub variables : x.core.variables ≡ c.variables
  pub inputs : x.core.inputs ≡ c.inputs
  pub made : x.core.made ≤ suc c.made
  pub status : T (status_valid x.core (status_at x.back))

-- going back changes the levels alone
pub record Sized (c d : Core) : Type 0 where
  pub variables : d.variables ≡ c.variables
  pub inputs : d.inputs ≡ c.inputs
  pub made : d.made ≡ c.made

from-sized : (ls : List Level) (c : Core) → Sized c (back_from ls c)
unfolding back_from with_levels
from-sized [] c = record { variables = refl; inputs = refl; made = refl }
from-sized (l ∷ []) c = record { variables = refl; inputs = refl; made = refl }
from-sized (l ∷ o ∷ ls) c = record { variables = refl; inputs = refl; made = refl }

pub back-sized : (d : ℕ) (c : Core) → Sized c (back_up d c)
unfolding back_up
back-sized d c = from-sized (drop (depth c - d) (levels c)) c

settled-sized : (d : ℕ) (c : Core) → Sized c (settled d c)
unfolding settled
settled-sized zero c = record { variables = refl; inputs = refl; made = refl }
settled-sized (suc d) c = back-sized (suc d) c

settled-fits : (d : ℕ) (c n : Core) → Keeps c n → CoreFits n → d ≤ depth c → CoreFits (settled d n)
unfolding settled depth
settled-fits zero c n k f h = f
settled-fits (suc d) c n k f h = back_fits d n f (unfold depth in rw k.outer h)

settled-status : (d : ℕ) (c n : Core) (k : Constraint) → Keeps c n → Back k c d → ((box : Box) → T (falsified k box) → T (any_of (falsifies box) (kept n))) →
    T (status_valid (settled d n) (status_at d))
unfolding settled status_at status_valid any_falsified kept
settled-status zero c n k e b f = rw (e.deepest, e.outer) (f (outermost c.deepest c.outer).box (back-outermost k c b))
settled-status (suc d) c n k e b f = tt

-- d is the least depth that falsifies k, which the deepest level falsifies, and whatever falsifies k falsifies a constraint that is kept afterwards
settled-of : (c : Core) (j : ℕ) (a : Analysis) (n : Numbered) (k : Constraint) → CoreFits n.core → Keeps c n.core → ConstraintFits c.variables a.cut → Inequality a.cut →
    T (falsified k c.deepest.box) → ((box : Box) → T (falsified k box) → T (any_of (falsifies box) (kept n.core))) → Settled c (conflict_of c j a n (backjump_level k c))
unfolding conflict_of
settled-of c j a n k f e cut own t any =
    let b = backjump-back k c t in
    let d = backjump_level k c in
    let z = settled-sized d n.core in
    record {
      fits = settled-fits d c n.core e f b.reach;
      cut = cut;
      inequality = own;
      variables = z.variables ∙ e.variables;
      inputs = z.inputs ∙ e.inputs;
      made = omega (arith, z.made, e.made);
      status = settled-status d c n.core k e b any;
    }

-- the zero cut is in range
nothing-fits : (n : ℕ) → ConstraintFits n (nothing_learned n).cut
unfolding nothing_learned in_range all_of within
nothing-fits n = record { range = zeros n; size = length-replicate n (pos 0) }
  where
    zeros : (n : ℕ) → T (all_of (within max_coefficient) (replicate n (pos 0)))
    zeros zero = tt
    zeros (suc n) = zeros n

conflict-by : (q : ℕ) (c : Core) (j : ℕ) → modulus (get_or (kept c) j no_constraint) ≡ q → CoreFits c → Falsifies (kept c) c.deepest.box j → Settled c (conflict_by q c j (get_or (kept c) j no_constraint))
unfolding conflict_by learning no_learning
conflict-by zero c j e f h =
    let a = analyze c (get_or (kept c) j no_constraint) in
    let l = analyze-learned c j f h e in
    settled-of c j a (numbered c a.cut) a.cut (numbered-fits c a.cut f l.fits l.inequality) (numbered-keeps c a.cut) l.fits l.inequality l.false
    (λ box t. numbered-falsifies c a.cut box t)
conflict-by (suc q) c j e f h =
    settled-of c j (nothing_learned c.variables) (record { number = 0; core = c }) (get_or (kept c) j no_constraint) f (keeps-all c) (nothing-fits c.variables) (unfold modulus nothing_learned in refl) h.false
    (λ box t. T_of (any_of-get_d (falsifies box) (kept c) j no_constraint h.at (true_of _ (unfold falsifies in t))))

pub conflict-settled : (c : Core) (j : ℕ) → CoreFits c → Falsifies (kept c) c.deepest.box j → Settled c (at_conflict c j)
unfolding at_conflict
conflict-settled c j f h = conflict-by (modulus (get_or (kept c) j no_constraint)) c j refl f h

-- ---- the marks
neither : (s t : Bool) → T (not s) → T (not t) → T (not (s || t))
neither true t h k = h
neither false t h k = k

fixed-status : (box : Box) → Fixed box → T (not (any_of is_open box))
unfolding any_of is_open
fixed-status [] f = tt
fixed-status (b ∷ box) f = neither (lt_z b.lower b.upper) (any_of is_open box) (nlt-out b.lower b.upper f.0) (fixed-status box f.1)

clear-status : (ks : List Constraint) (box : Box) → Clear ks box → T (not (any_of (falsifies box) ks))
unfolding any_of falsifies
clear-status [] box c = tt
clear-status (k ∷ ks) box c = neither (falsified k box) (any_of (falsifies box) ks) c.0 (clear-status ks box c.1)

-- ---- a step
valid-of : (s : Search) → CoreFits s.core → Sizes s → T (status_valid s.core s.status) → Valid s
valid-of s f z t = record { shape = fits-shaped s.core f; tests = fits-valid s f z t }

-- without a dead end, in a state with the same sizes that passes its mark's test, whatever N5's count
pub status-valid : (s : Search) (c : Core) (k : ℕ) (m : Status) → Sizes s → Along s.core c → T (status_valid c m) →
    Valid (record { core = c; budget = s.budget; conflicts = s.conflicts; propagations = k; status = m })
status-valid s c k m z a t =
    valid-of _ a.fits
    (record {
      some = rw a.variables z.some;
      few = rw a.variables z.few;
      inputs = rw a.inputs z.inputs;
      budget = z.budget;
      conflicts = z.conflicts;
      made = rw a.made z.made;
    })
    t

solved-valid : (s : Search) (c : Core) → Sizes s → Along s.core c → Finishes (kept c) c.deepest.box → Valid (solved_by s c).state
unfolding solved_by status_valid any_falsified
solved-valid s c z a f =
    status-valid s c (propagated s) solved z a
    (and_in (not (any_of is_open c.deepest.box)) (not (any_of (falsifies c.deepest.box) (kept c))) (fixed-status c.deepest.box f.fixed) (clear-status (kept c) c.deepest.box f.clear))

counted-valid : (s : Search) (c : Core) (x : Conflict) → Sizes s → Along s.core c → Settled c x → s.conflicts < s.budget → Valid (counted s x).state
unfolding counted
counted-valid s c x z a t h =
    valid-of _ t.fits
    (record {
      some = rw (t.variables, a.variables) z.some;
      few = rw (t.variables, a.variables) z.few;
      inputs = rw (t.inputs, a.inputs) z.inputs;
      budget = z.budget;
      conflicts = h;
      made = omega (arith, t.made, a.made, z.made);
    })
    t.status

-- at a dead end: out of budget the state stays, else it is counted
pub spent-or-counted : (q : Outcome → Type 0) (s : Search) (c : Core) (j : ℕ) → s.conflicts ≤ s.budget → (s.conflicts ≡ s.budget → q (budget_spent s)) →
    (s.conflicts < s.budget → q (counted s (at_conflict c j))) → q (on_conflict s c j)
unfolding on_conflict
spent-or-counted q s c j h f g = go (eqb s.conflicts s.budget) (λ t. eqb→eq s.conflicts s.budget t) (λ t e. t (subst (λ (b : ℕ). T (eqb s.conflicts b)) e (eqb_refl s.conflicts)))
  where
    go : (t : Bool) → (T t → s.conflicts ≡ s.budget) → ((T t → ⊥) → s.conflicts ≡ s.budget → ⊥) → q (cond t (budget_spent s) (counted s (at_conflict c j)))
    go true y n = f (y tt)
    go false y n = let m = n (λ z. z) in g (omega arith)

ended-valid : (s : Search) (c : Core) (e : Option ℕ) → Valid s → Sizes s → Along s.core c → EndsAt c e → Valid (ended_at s c e).state
unfolding ended_at
ended-valid s c none v z a f = solved-valid s c z a f
ended-valid s c (some j) v z a f =
    spent-or-counted (λ o. Valid o.state) s c j z.conflicts (λ e. unfold budget_spent in v) (λ h. counted-valid s c (at_conflict c j) z a (conflict-settled c j a.fits f) h)

step_by_lem : (m : Status) (s : Search) → Valid s → Valid (step_by m s).state
unfolding step_by again ended
step_by_lem undecided s v =
    let d = descend-along s.core (core-fits s v.shape v.tests) in
    ended-valid s (descend s.core).core (descend s.core).falsified v (sizes-fit s v.tests) d.holds d.ends
step_by_lem infeasible s v = v
step_by_lem solved s v = v

-- a step keeps validity
pub step-valid : (s : Search) → Valid s → Valid (step s).state
unfolding step
step-valid s v = step_by_lem s.status s v

-- ---- a run
-- two different constructors
pub impossible : {A : Type 0} → ◌≡◌ {A = ℕ} 0 1 → A
impossible e = let z : ⊥ = omega arith in absurd z

-- the conflicts counted from one state to another, a block for each
pub record Counted (s : Search) (blocks : List (List ℕ)) (t : Search) : Type 0 where
  pub conflicts : t.conflicts ≡ s.conflicts + length blocks
  pub budget : t.budget ≡ s.budget

-- a step that goes on counts one
record Counts (s : Search) (o : Outcome) : Type 0 where
  total : Counted s (block_in o.block) o.state
  goes : o.verdict ≡ go_on → length (block_in o.block) ≡ 1

ended-counts : (s : Search) (c : Core) (e : Option ℕ) → s.conflicts ≤ s.budget → Counts s (ended_at s c e)
unfolding ended_at solved_by block_in
ended-counts s c none h = record { total = record { conflicts = omega arith; budget = refl }; goes = λ e. impossible (cc) }
ended-counts s c (some j) h =
    spent-or-counted (Counts s) s c j h
    (λ e. unfold budget_spent in record { total = record { conflicts = omega arith; budget = refl }; goes = λ e. impossible (cc) })
    (λ k. unfold counted in record { total = record { conflicts = omega arith; budget = refl }; goes = λ e. refl })

step-counts-by : (m : Status) (s : Search) → s.conflicts ≤ s.budget → Counts s (step_by m s)
unfolding step_by again ended block_in
step-counts-by undecided s h = ended-counts s (descend s.core).core (descend s.core).falsified h
step-counts-by infeasible s h = record { total = record { conflicts = omega arith; budget = refl }; goes = λ e. impossible (cc) }
step-counts-by solved s h = record { total = record { conflicts = omega arith; budget = refl }; goes = λ e. impossible (cc) }

step_counts : (s : Search) → Valid s → Counts s (step s)
unfolding step
step_counts s v = step-counts-by s.status s (sizes-fit s v.tests).conflicts

pub step-counted : (s : Search) → Valid s → Counted s (block_in (step s).block) (step s).state
step-counted s v = (step_counts s v).total

continue-ends : (v : Verdict) (o : Outcome) (go : Search → Outcome) → o.verdict ≡ v → (v ≡ go_on → ¬ ((go o.state).verdict ≡ go_on)) → ¬ ((continue v o go).verdict ≡ go_on)
unfolding continue
continue-ends go_on o go e f h = f refl h
continue-ends no_solution o go e f h = impossible (cc)
continue-ends out_of_budget o go e f h = impossible (cc)
continue-ends (solution x) o go e f h = impossible (cc)

run-for-ends : (fuel : ℕ) (s : Search) → Valid s → s.conflicts + fuel ≡ s.budget → ¬ ((run_for fuel s).verdict ≡ go_on)
unfolding run_for
run-for-ends zero s v h e =
    let c = step_counts s v in
    let z = sizes-fit (step s).state (step-valid s v).tests in
    omega (arith, c.total.conflicts, c.goes e, c.total.budget, z.conflicts)
run-for-ends (suc fuel) s v h e =
    let c = step_counts s v in
    let o = step s in
    continue-ends o.verdict o (run_for fuel) refl (λ g. run-for-ends fuel o.state (step-valid s v) (omega (arith, c.total.conflicts, c.goes g, c.total.budget))) e

-- a run from any valid state ends within budget − conflicts further steps
pub run_ends : (s : Search) → Valid s → ¬ ((run s).verdict ≡ go_on)
unfolding run without_block
run_ends s v = run-for-ends (s.budget - s.conflicts) s v (omega (arith, (sizes-fit s v.tests).conflicts))
