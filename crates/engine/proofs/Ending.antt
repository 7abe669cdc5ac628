-- The ways out of the loop.
use Prim.Native.Nat.{ℕ, ◌≤◌, ◌<◌}
use native.Mathlib.Omega.{arith}
use mathlib.Core.Bool.{Bool, true, false}
use mathlib.Core.List.{List}
use mathlib.Core.Path.{◌≡◌, sym, ap, subst, ◌∙◌}
use lib.IntN.{ℤ}
use lib.ListN.{length-set}
use Rattle.model_walk.specs.Search as model
use Rattle.model_walk.specs.Move.{finish}
use Rattle.state.specs.View.{status_of, view}
use Rattle.state.proofs.Cores.{levels-above}
use Rattle.state.specs.declared.Level.{Level}
use Rattle.state.specs.declared.Search.{Search}
use Rattle.state.specs.declared.Status.TheVariants.{Solved}
use Rattle.propagate.specs.Moves.{stop_of}
use Rattle.propagate.specs.declared.propagate.Found.{Found}
use Rattle.propagate.specs.declared.propagate.Found.TheVariants.{Conflict, Finish}
use Rattle.levels.specs.Struck.{last_of}
use Rattle.turns.specs.Advancing.{Starts}
use Rattle.turns.specs.declared.Ending.TheVariants.{GoOn, NoSolution, OutOfBudget}
use Rattle.turns.proofs.Arms.{finishes, spends, exits, unsolved}
use Rattle.turns.proofs.Rounds.{depth_small}
use Rattle.turns.proofs.Striking.{Struck, started, go_on_lem, last-final, not_last, none_kept}
use Rattle.turns.specs.declared.Ending.TheVariants.{Solution}
use Rattle.engine.specs.Given.{GivenOf}
use Rattle.engine.specs.Walk.{Fresh, Begins, On, RunningAt, Stopped, stored, Spare, CountedOn, Endable, Ran}
use Rattle.engine.specs.declared.given.Given.{Given}
use Rattle.engine.specs.declared.walk.Walk.{Walk}
use Rattle.engine.proofs.Going.{at_conflict, at_finish, given_same, moved}
use Rattle.engine.proofs.Counting.{started_here}

-- where the walk begins
begun : {s : model.Search} {limit room n left many : ℕ} {list : List ℤ} {Here : model.Search → Type 0} → left ≡ limit → many ≡ 0 → Here s → Struck s limit room n list left many list Here
begun e f h = rw (e, f) (started h)

pub walk-begins : {s : Search} {limit : ℕ} {keep : Bool} {room : ℕ} {buffer : List ℕ} {list : List ℤ} → Starts s limit keep room buffer list → {g : Given} {v : Walk} → Fresh s limit v → {w : Walk} → Begins g s v w →
    Struck (view s) limit room g.n list w.left w.struck list (λ b. On g b buffer keep buffer s w)
walk-begins {s} {limit} {keep} {room} {buffer} {list} i h b =
    let e = ap (λ (z : Walk). z.left) h.is in
    begun (b.left ∙ e) b.struck (b.on keep room buffer list (subst (λ (k : ℕ). Starts s k keep room buffer list) (sym e) i))

-- the turns go on from the same state
pub onward : {s : model.Search} {limit room n : ℕ} {list list₁ : List ℤ} {left left₁ many many₁ : ℕ} {Here : model.Search → Type 0} (k : Struck s limit room n list left many list₁ Here) → left₁ ≡ left → many₁ ≡ many →
    {There : model.Search → Type 0} → There k.base → Struck s limit room n list left₁ many₁ list₁ There
onward k e f h = rw (e, f) (go_on_lem k h)

endable : {g : Given} {base : model.Search} {old : List ℕ} {keep : Bool} {now : List ℕ} {s : Search} {w : Walk} {l : Level} {tally : ℕ} → GivenOf s g → RunningAt g base old keep now s w l tally → Endable g s w
endable f r = record { of_state = f; few = r.counts.few; inputs = r.counts.inputs; apart = r.apart; rows_long = r.rows_long; shallow = omega (arith, r.from, depth_small r); levels_long = r.levels_long }

module _ {g : Given} {base : model.Search} {limit room : ℕ} {list list₁ : List ℤ} {old : List ℕ} {keep : Bool} {now : List ℕ} {t : Search} {v : Walk} (k : Struck base limit room g.n list v.left v.struck list₁ (λ b. On g b old keep now t v)) where
  -- as many turns as were asked for
  pub goes-on : v.left ≤ v.done → Ran g base limit room list old keep t v now list₁ GoOn
  unfolding status_of
  goes-on h =
      let o = k.here in
      record { way = go_on_lem k (rw o.fixed.unmarked (exits o.running h)); final = unsolved GoOn tt; ends = endable o.fixed.of_state o.running }

  module _ (more : v.done < v.left) {s : Search} {w : Walk} {f : Found} (p : Stopped g k.base old keep now v t.propagations s w f) where
    -- a solution is struck out where a decision led to it, and there is room for it
    pub spare : (keep ≡ true → room ≡ 0) → (b : Bool) → b ≡ last_of s.depth w.struck room s.propagations → b ≡ false → Spare room keep s w
    spare off b e h =
        let q = p.same in
        let z = not_last _ _ room _ b e h (omega (arith, q.struck, k.few)) in
        record { unkept = none_kept keep _ _ off z.1.0; place = z.1.0; some = z.0; few = z.1.1; more = omega (arith, q.left, q.done) }

    -- or it stays
    pub solves : f ≡ Finish → (b : Bool) → b ≡ last_of s.depth w.struck room s.propagations → b ≡ true → {y : Walk} → y ≡ started_here s w → Ran g base limit room list old keep (record s { status = Solved }) y now list₁ Solution
    unfolding status_of
    solves z b e h {y} a =
        let q = p.same in
        subst (λ (x : Walk). Ran g base limit room list old keep (record s { status = Solved }) x now list₁ Solution) (sym a)
        (record {
          way = onward k q.left q.struck (finishes p.running w.level s.propagations (omega (arith, q.done, q.left)) (moved p finish (ap stop_of z ∙ at_finish)));
          final = λ u. last-final _ _ _ _ b e h;
          ends = record {
            of_state = given_same p.fixed.of_state _ _ _ _ _;
            few = p.running.counts.few;
            inputs = p.running.counts.inputs;
            apart = p.running.apart;
            rows_long = p.running.rows_long;
            shallow = depth_small p.running;
            levels_long = p.running.levels_long;
          };
        })

    -- no conflict is left
    pub spent : (j : ℕ) → f ≡ Conflict j → s.conflicts ≡ g.budget → Ran g base limit room list old keep (stored s w) w now list₁ OutOfBudget
    unfolding status_of
    spent j z e =
        let q = p.same in
        let r = p.running in
        record {
          way = onward k q.left q.struck
              (rw (levels-above g.n s.levels w.turn.start s.depth w.level r.from, p.fixed.unmarked) (spends r w.level j s.propagations (omega (arith, q.done, q.left)) e (moved p _ (ap stop_of z ∙ at_conflict j))));
          final = unsolved OutOfBudget tt;
          ends = record {
            of_state = given_same p.fixed.of_state _ _ _ _ _;
            few = r.counts.few;
            inputs = r.counts.inputs;
            apart = r.apart;
            rows_long = r.rows_long;
            shallow = omega (arith, r.from, depth_small r);
            levels_long = length-set s.levels s.depth w.level ∙ r.levels_long;
          };
        }

  -- a conflict with nothing to go back to
  pub none-left : {s : Search} {w : Walk} {next : List ℕ} {b : Bool} → CountedOn g k.base old keep v s w next b → b ≡ false → Ran g base limit room list old keep s w next list₁ NoSolution
  none-left q e = record { way = onward k q.left q.struck (q.none e); final = unsolved NoSolution tt; ends = q.ends e }
