-- `engine::walk::Walk::begin` meets its contract. Assumes nothing.
use native.Mathlib.Omega.{arith}
use mathlib.Core.Path.{◌≡◌, sym, ap, subst, ◌∙◌}
use borrow.Author.Rules.{rules}
use Rattle.state.specs.View.{view}
use Rattle.propagate.proofs.Steps.{scan-fits}
use Rattle.backtrack.specs.Saved.{Roomy, Saved}
use Rattle.backtrack.proofs.Saving.{saved-none}
use Rattle.turns.proofs.Starting.{start-counts}
use Rattle.turns.proofs.Rounds.{ready}
use Rattle.engine.specs.Walk.{RunningAt, Scannable, fresh}
use Rattle.engine.specs.declared.walk.Walk.{Walk}
use Rattle.engine.proofs.Beginning.{running-begins}
use Rattle.engine.proofs.walk.Walk.begin.Goals as goal

pub put_rows-requires : goal.put_rows-requires
put_rows-requires c =
    let n = start-counts c.requires.startable in
    let f = c.requires.taken.of_state in
    (omega (arith, f.variables, n.few), (omega (arith, f.inputs, n.inputs), (search rules, (search rules, search rules))))

pub scan-requires : goal.scan-requires
scan-requires c =
    let t = c.requires.taken in
    let h = c.requires.fresh in
    let s = c.args.s.now in
    let r = running-begins c.requires.startable t c.put_rows.ensures (search rules) (search rules) h.whole (search rules) h.levels_long (search rules) in
    subst (λ (z : Walk). Scannable c.args.given.now (record z { store = record { rows = c.put_rows.new.rows; numbers = s.numbers; made = s.made } })) (sym h.is)
    (record { sorted = t.sorted; inputs = r.counts.inputs; fits = scan-fits _ _ _ _ _ (ready r); rows_long = r.rows_long; apart = r.apart; whole = h.whole; activities_long = search rules; reaches_long = search rules })

pub returns : goal.returns
returns c =
    let g = c.args.given.now in
    let s = c.args.s.now in
    let v = c.args.self.now in
    let w = c.scan.new.self in
    let t = c.requires.taken in
    let h = c.requires.fresh in
    let to = λ (z : Walk). record z { store = record { rows = c.put_rows.new.rows; numbers = s.numbers; made = s.made }; track = w.track; told = w.told; masks = w.masks } in
    let e : w ≡ to (fresh s v.left v.saved) = c.scan.ensures.is ∙ ap to h.is in
    record {
      on = λ keep room buffer list i.
          let r = running-begins i t c.put_rows.ensures (search rules) (search rules) h.whole (search rules) h.levels_long (search rules) in
          record {
            fixed = record { of_state = t.of_state; sorted = t.sorted; unmarked = i.unmarked };
            running = subst (λ (z : Walk). RunningAt g (view s) buffer keep buffer s z z.level s.propagations) (sym e) r;
            carried =
                record {
                  falsified = c.scan.ensures.falsified;
                  room = subst (λ (z : Walk). Roomy z.saved.olds z.saved.limits z.saved.gones z.saved.counts) (sym e) h.room;
                  saved = subst (λ (z : Walk). Saved g.n g.m z.store.made z.store.rows s.levels z.saved.olds z.saved.limits z.saved.gones z.saved.counts s.depth) (sym e) (rw (h.gones, h.counts) (saved-none _ _ _ _ _ _ _ 33 _));
                  masks = c.scan.ensures.masks;
                  clear = λ d a b. absurd (omega (arith, ap (λ (z : Walk). z.low) e));
                };
          };
      left = ap (λ (z : Walk). z.left) e;
      struck = ap (λ (z : Walk). z.struck) e;
    }
