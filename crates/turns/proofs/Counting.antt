-- The arm of a counted conflict: 'none', or back to an earlier level and the next turn.
use Prim.Native.Nat.{ℕ, suc, ◌+◌, ◌-◌, ◌≤◌, ◌<◌}
use native.Mathlib.Omega.{arith}
use native.Mathlib.Numerals.{add-one}
use mathlib.Core.Bool.{Bool}
use mathlib.Core.List.{List, [], ◌∷◌, ◌++◌, append_assoc}
use mathlib.Core.Option.{some}
use mathlib.Core.Path.{◌≡◌, refl, sym, ap, subst, ◌∙◌}
use lib.IntN.{ℤ}
use lib.ListN.{set, length, length-set, length-append}
use Rattle.model_files.specs.Bytes.{block_length}
use Rattle.model_problems.specs.Constraint.{Constraint}
use Rattle.model_walk.specs.Search as model
use Rattle.model_walk.specs.Move.{conflict, follow, descend, propagations_by}
use Rattle.model_walk.specs.Conflict.{Conflict, settled, at_conflict}
use Rattle.model_files.specs.Journal.{record_bytes}
use Rattle.model_walk.specs.Step.{block_in, propagated, record_of, verdict_at, status_at, counted}
use Rattle.model_walk.specs.Trace.{Trace, with_blocks, last_step, advance}
use Rattle.record.specs.Written.{Emitted}
use Rattle.format.proofs.RecordCut.{length-record}
use Rattle.validity.proofs.States.{CoreFits}
use Rattle.validity.proofs.Steps.{conflict-settled}
use Rattle.layout.specs.Rows.{thresholds_of}
use Rattle.state.specs.View.{level_of, level_at, core_over}
use Rattle.propagate.specs.Apart.{Apart}
use Rattle.state.specs.Change.{Whole}
use Rattle.state.specs.declared.Level.{Level}
use Rattle.turns.specs.Advancing.{verdict_of}
use Rattle.turns.specs.declared.Ending.TheVariants.{NoSolution}
use Rattle.turns.proofs.OneStep.{advance-none, advance-on}
use Rattle.turns.proofs.Conflicting.{conflict_with}
use Rattle.turns.proofs.Buffers.{joined_length, buffer-more}
use Rattle.turns.proofs.Measures.{core-slack}
use Rattle.turns.proofs.Running.{Running, Propagates, step_start, core_here, starts-tally, ends-tally, counts-tally}
use Rattle.turns.proofs.Arms.{state_at, Reaches}
use Rattle.turns.proofs.Returning.{backed-here}

with-blocks : (a b : List (List ℕ)) (t : Trace) → with_blocks a (with_blocks b t) ≡ with_blocks (a ++ b) t
unfolding with_blocks
with-blocks a b t = rw append_assoc

module _ (s : model.Search) (old : List ℕ) (limit : ℕ) (keep : Bool) (thresholds lines divisors : List ℤ) (n m budget : ℕ) (now : List ℕ) (rows : List ℤ) (numbers : List ℕ) (levels : List Level) (made conflicts depth : ℕ)
    (level before : Level) (start done earlier tally : ℕ) (here : Level)
    (r : Running s old limit keep thresholds lines divisors n m budget now rows numbers levels made conflicts depth level before start done earlier tally)
    (h : done < limit) (deep : depth < length levels) (afford : conflicts < budget) (j tally₁ : ℕ)
    (p : Propagates (core_here thresholds lines divisors n m rows numbers levels made depth level) (core_here thresholds lines divisors n m rows numbers levels made depth here) (conflict j) tally tally₁)
    (cut : Constraint) (used : List ℕ) (number : ℕ) (rows₁ : List ℤ) (numbers₁ : List ℕ) (made₁ : ℕ)
  where
    -- what the conflict is, with its backjump level
    abbrev pub Is : ℕ → Type 0
    Is back =
        at_conflict (core_here thresholds lines divisors n m rows numbers levels made depth here) j ≡
        conflict_with (core_here thresholds lines divisors n m rows numbers levels made depth here) j cut used number back (core_here thresholds lines divisors n m rows₁ numbers₁ levels made₁ depth here)

    -- the block of this conflict
    unfoldable pub block_for : ℕ → List ℕ
    block_for back =
        record_bytes (record_of (conflicts + 1) (conflict_with (core_here thresholds lines divisors n m rows numbers levels made depth here) j cut used number back (core_here thresholds lines divisors n m rows₁ numbers₁ levels made₁ depth here)))

    start-core : descend (step_start thresholds lines divisors n m budget conflicts rows numbers levels made before start earlier).core ≡ record { core = core_here thresholds lines divisors n m rows numbers levels made depth here; falsified = some j }
    unfolding follow
    start-core = r.turn ∙ p.next

    -- all its bounds are counted
    all-counted : propagated (step_start thresholds lines divisors n m budget conflicts rows numbers levels made before start earlier) ≡ tally₁
    unfolding propagated propagations_by
    all-counted = ends-tally r.counted p refl

    -- one turn more is allowed
    more : limit - done ≡ suc (limit - done - 1)
    more = omega arith

    pub ends-none : Is 0 → (next : List ℕ) → Emitted keep done (block_for 0) now next →
        Reaches s limit keep NoSolution (done + 1) (state_at thresholds lines divisors n m budget (conflicts + 1) made₁ depth model.infeasible rows₁ numbers₁ levels here tally₁) old next
    unfolding verdict_of block_for counted last_step with_blocks block_in verdict_at status_at settled
    ends-none x next e =
        let t = step_start thresholds lines divisors n m budget conflicts rows numbers levels made before start earlier in
        let c = core_here thresholds lines divisors n m rows numbers levels made depth here in
        record {
          blocks = r.blocks ++ (block_for 0 ∷ []);
          many = omega (arith, r.many, length-append r.blocks (block_for 0 ∷ []));
          trace =
              rw add-one
              (sym (r.ahead ∙ ap (with_blocks r.blocks) (ap (λ (k : ℕ). advance k t) more ∙ advance-none (limit - done - 1) t c j refl start-core afford (ap (λ (y : Conflict). y.back) x)) ∙
              ap (λ (y : Conflict). with_blocks r.blocks (last_step (counted t y))) x ∙ rw all-counted));
          buffer = buffer-more keep r.blocks (block_for 0) old now next done r.many r.long r.buffer e;
        }

    -- back to level e: the levels were stored, so that going back reads them there
    settled_back : (e : ℕ) → suc e ≤ depth → (flip : Level) → level_of n flip ≡ model.flip_at (thresholds_of n thresholds) (level_at n (set levels depth here) (suc e)).decided (level_at n (set levels depth here) e) →
        settled (suc e) (core_here thresholds lines divisors n m rows₁ numbers₁ levels made₁ depth here) ≡ core_here thresholds lines divisors n m rows₁ numbers₁ (set levels depth here) made₁ e flip
    unfolding settled
    settled_back e d flip f = backed-here thresholds lines divisors n m made₁ rows₁ numbers₁ levels depth here deep e d flip f

    -- the next turn starts where this conflict went back to
    next-step : (e : ℕ) (flip : Level) → settled (suc e) (core_here thresholds lines divisors n m rows₁ numbers₁ levels made₁ depth here) ≡ core_here thresholds lines divisors n m rows₁ numbers₁ (set levels depth here) made₁ e flip →
        Is (suc e) →
        advance limit s ≡ with_blocks (r.blocks ++ (block_for (suc e) ∷ [])) (advance (limit - (done + 1)) (step_start thresholds lines divisors n m budget (conflicts + 1) rows₁ numbers₁ (set levels depth here) made₁ flip e tally₁))
    unfolding block_for counted status_at
    next-step e flip a x =
        let t = step_start thresholds lines divisors n m budget conflicts rows numbers levels made before start earlier in
        let c = core_here thresholds lines divisors n m rows numbers levels made depth here in
        let left : limit - done - 1 ≡ limit - (done + 1) = omega arith in
        let y = conflict_with c j cut used number (suc e) (core_here thresholds lines divisors n m rows₁ numbers₁ levels made₁ depth here) in
        r.ahead ∙
        ap (with_blocks r.blocks) (ap (λ (k : ℕ). advance k t) more ∙ advance-on (limit - done - 1) t c j refl start-core e afford (ap (λ (q : Conflict). q.back) x)) ∙
        ap (λ (q : Conflict). with_blocks r.blocks (with_blocks (record_bytes (record_of (suc conflicts) q) ∷ []) (advance (limit - done - 1) (counted t q).state))) x ∙
        with-blocks r.blocks (record_bytes (record_of (suc conflicts) y) ∷ []) (advance (limit - done - 1) (counted t y).state) ∙
        rw (add-one, left, a, all-counted)

    pub goes_on_lem : (e : ℕ) → Is (suc e) → suc e ≤ depth → (next : List ℕ) → Emitted keep done (block_for (suc e)) now next →
        Apart n m rows₁ lines divisors → length rows₁ ≡ 4224 → length numbers₁ ≡ 64 → made₁ ≤ suc made → (flip : Level) → Whole flip →
        level_of n flip ≡ model.flip_at (thresholds_of n thresholds) (level_at n (set levels depth here) (suc e)).decided (level_at n (set levels depth here) e) →
        Running s old limit keep thresholds lines divisors n m budget next rows₁ numbers₁ (set levels depth here) made₁ (conflicts + 1) e flip flip e (done + 1) tally₁ tally₁
    goes_on_lem e x d next w a rl nl ml flip wf fe =
        let t = step_start thresholds lines divisors n m budget conflicts rows numbers levels made before start earlier in
        let c = core_here thresholds lines divisors n m rows numbers levels made depth here in
        let kept = core_here thresholds lines divisors n m rows₁ numbers₁ levels made₁ depth here in
        let f = conflict-settled c j p.fits p.chosen in
        let after : settled (suc e) kept ≡ core_here thresholds lines divisors n m rows₁ numbers₁ (set levels depth here) made₁ e flip = settled_back e d flip fe in
        let fits = subst CoreFits (ap (λ (y : Conflict). y.core) x ∙ after) f.fits in
        record {
          counts = record { some = r.counts.some; few = r.counts.few; inputs = r.counts.inputs; limited = r.counts.limited; afford = omega arith; cuts = omega (arith, r.counts.cuts) };
          whole = wf;
          whole_before = wf;
          rows_long = rl;
          numbers_long = nl;
          levels_long = length-set levels depth here ∙ r.levels_long;
          thresholds_long = r.thresholds_long;
          apart = a;
          fits = fits;
          from = omega arith;
          counted = starts-tally _ (conflicts + 1) tally₁ (counts-tally r.counted p) (core-slack _ fits (unfold core_over in r.counts.few));
          turn = refl;
          within = omega arith;
          blocks = r.blocks ++ (block_for (suc e) ∷ []);
          many = omega (arith, r.many, length-append r.blocks (block_for (suc e) ∷ []));
          long = joined_length block_length r.blocks (block_for (suc e)) done r.long (unfold block_for in length-record _);
          room = r.room;
          ahead = next-step e flip after x;
          buffer = buffer-more keep r.blocks (block_for (suc e)) old now next done r.many r.long r.buffer w;
        }
