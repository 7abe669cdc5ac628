-- `engine::walk::Walk::go_back` meets its contract. Assumes nothing.
use Prim.Native.Nat.{◌-◌}
use native.Mathlib.Omega.{arith}
use mathlib.Core.Path.{refl, sym, ap, subst}
use Rattle.state.specs.declared.Level.{Level}
use Rattle.engine.specs.Walk.{GoneBack}
use Rattle.engine.proofs.Returning.{inside, flippable, lengths, flipped-is, testable-back, carried-back}
use Rattle.engine.proofs.walk.Walk.go_back.Goals as goal

pub backjump-first-requires : goal.backjump-first-requires
backjump-first-requires c =
    let o = c.whole-self in
    let f = ap (λ (l : Level). l.decided) c.whole-i.ensures.0 in
    let k = c.kept-kept.ensures in
    rw (k.0, k.1.0, k.1.1.0, k.1.1.1)
    (flippable c.requires o.result c.whole-i.result.decided o.ensures.0 f o.ensures.1, lengths c.requires o.result c.whole-i.result.decided o.ensures.0 f o.ensures.1)

pub due-due-requires : goal.due-due-requires
due-due-requires c =
    let o = c.whole-self in
    inside c.requires o.result c.whole-i.result.decided o.ensures.0 (ap (λ (l : Level). l.decided) c.whole-i.ensures.0) o.ensures.1

pub first_divided-self-requires : goal.first_divided-self-requires
first_divided-self-requires c =
    let o = c.whole-self in
    let d = c.due-due.ensures in
    let k = c.kept-kept.ensures in
    testable-back c.requires o.result c.whole-i.result.decided o.ensures.0 (ap (λ (l : Level). l.decided) c.whole-i.ensures.0) o.ensures.1 c.backjump-first.ensures.level (rw (k.0, k.1.0, k.1.1.0, k.1.1.1) at c.backjump-first.ensures.flipped) d.all d.mentioned

pub returns : goal.returns
returns c =
    let v = c.args.self.now in
    let s = c.args.s.now in
    let o = c.whole-self in
    let i = c.whole-i.result.decided in
    let f = ap (λ (l : Level). l.decided) c.whole-i.ensures.0 in
    let r = c.backjump-first in
    let d = c.due-due.ensures in
    let k = c.kept-kept.ensures in
    let at = record s { depth = c.args.back - 1 } in
    let b = rw (k.0, k.1.0, k.1.1.0, k.1.1.1) at r.ensures.flipped in
    subst (GoneBack c.args.given.now s v c.args.back at) (sym c.start_turn.ensures)
    (record {
      whole = o.ensures.1;
      state = refl;
      is = ap (λ (l : Level). record v { level = l; low = c.min-self.result; turn = record { before = l; start = c.args.back - 1; earlier = s.propagations }; track = r.new.track; told = c.first_divided-self.result })
          (flipped-is c.requires o.result i o.ensures.0 f o.ensures.1 r.ensures.level);
      carried = carried-back c.requires o.result i o.ensures.0 f o.ensures.1 r.ensures.level b d.all d.mentioned c.first_divided-self.ensures (λ h. omega (arith, c.min-self.ensures)) (λ h. omega (arith, c.min-self.ensures));
    })
