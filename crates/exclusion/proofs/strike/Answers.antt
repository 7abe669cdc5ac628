-- `exclusion::strike` meets its contract. Assumes nothing.
use Prim.Native.Nat.{ℕ, suc, ◌-◌, ◌<◌}
use native.Mathlib.Omega.{arith}
use mathlib.Core.Path.{◌≡◌}
use lib.ListN.{length}
use borrow.Author.Rules.{rules}
use Rattle.state.specs.declared.Search.{Search}
use Rattle.state.specs.View.{view}
use Rattle.validity.specs.Valid.{Valid}
use Rattle.state.proofs.Shape.{elements-kept}
use Rattle.propagate.proofs.States.{sizes}
use Rattle.exclusion.proofs.Striking.{flips, struck}
use Rattle.exclusion.proofs.strike.Goals as goal

one_more : {d : ℕ} → 0 < d → d ≡ suc (d - 1)
one_more h = omega (arith, h)

shallow : (s : Search) → Valid (view s) → s.depth < 33
shallow s v = (sizes s v).shallow

pub offset_bounds-levels-depth : goal.offset_bounds-levels-depth
offset_bounds-levels-depth c = record { fits = omega (arith, shallow c.args.s c.requires.0) }

pub bounds-levels-depth : goal.bounds-levels-depth
bounds-levels-depth c = shallow c.args.s c.requires.0

pub offset_bounds-levels-back : goal.offset_bounds-levels-back
offset_bounds-levels-back c = record { fits = omega (arith, shallow c.args.s c.requires.0) }

pub bounds-levels-back : goal.bounds-levels-back
bounds-levels-back c = omega (arith, shallow c.args.s c.requires.0)

pub flip-requires : goal.flip-requires
flip-requires c = flips c.args.s c.requires.0 _ (one_more c.requires.1) _ c.whole-level.ensures.0

pub returns : goal.returns
returns c =
    let s = c.args.s in
    let p = c.requires in
    let o = c.whole-level.ensures in
    -- the levels, as they are declared
    let long : length s.levels ≡ 33 = search (rules, elements-kept) in
    struck s p.0 _ (one_more p.1) _ o.0 _ c.flip.ensures.1 (rw o.0 o.1) (omega (arith, shallow s p.0, long))
