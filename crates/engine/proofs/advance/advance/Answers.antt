-- `engine::advance::advance` meets its contract. Assumes nothing.
use native.Mathlib.Omega.{arith}
use Prim.Native.Nat.{ℕ}
use mathlib.Core.Path.{refl, sym, ap, subst}
use Rattle.state.specs.View.{core_over, core_of, view}
use Rattle.turns.proofs.Starting.{start-counts, start-depth}
use Rattle.turns.proofs.Striking.{concludes}
use Rattle.engine.specs.Walk.{Fresh}
use Rattle.engine.specs.declared.walk.Walk.{Walk}
use Rattle.engine.proofs.Ending.{walk-begins}
use Rattle.engine.proofs.advance.advance.Goals as goal

pub new-given-requires : goal.new-given-requires
new-given-requires c = let n = start-counts c.requires in record { few = n.few; most = n.inputs }

pub new-walk-requires : goal.new-walk-requires
new-walk-requires c = omega (arith, start-depth c.requires)

pub begin-requires : goal.begin-requires
begin-requires c =
    let r = c.requires in
    let w = c.new-walk in
    record {
      taken = c.new-given.ensures;
      startable = record { valid = r.valid; unmarked = r.unmarked; few = r.few; kept = λ e. omega arith; apart = λ e. refl; roomy = omega arith };
      fresh = subst (λ (k : ℕ). Fresh c.args.s k w.result) (sym (ap (λ (z : Walk). z.left) w.ensures.is)) w.ensures;
    }

pub run-ending-requires : goal.run-ending-requires
run-ending-requires c =
    record {
      base = view c.args.s;
      limit = c.args.limit;
      list = c.args.solutions.now;
      old = c.args.buffer.now;
      way = walk-begins c.requires c.new-walk.ensures c.begin.ensures;
      unkept = c.requires.apart;
      roomy = rw (← c.new-given.ensures.of_state.variables) c.requires.roomy;
      fits = c.ranges.limit.fits;
    }

pub end-requires : goal.end-requires
end-requires c = (c.run-ending.ensures _ _ _ _ (walk-begins c.requires c.new-walk.ensures c.begin.ensures)).ends

pub returns : goal.returns
unfolding view core_of core_over
returns c =
    let r = c.run-ending.ensures _ _ _ _ (walk-begins c.requires c.new-walk.ensures c.begin.ensures) in
    concludes r.way c.new-given.ensures.of_state.variables _ _ _ _ _ _ _ _ _ _ _ _ _ _ r.way.here r.final _ c.end.ensures
