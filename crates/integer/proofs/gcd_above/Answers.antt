-- `integer::gcd_above` meets its contract: the greatest common divisor of what is left is that of the arguments. Assumes nothing.
use Rattle.std.proofs.Common.{◌≡◌, refl, sym, ◌∙◌, inl, inr, arith}
use Rattle.integer.specs.Divisor.{gcd-step, gcd-zero, gcd-small}
use Rattle.integer.proofs.gcd_above.Goals as goal

pub returns-then-y-least : goal.returns-then-y-least
returns-then-y-least c =
    let l = c.loop-y in
    inr (refl, rw l.invariant (gcd-small l.x l.y _ (omega arith) (omega arith)))

pub loop-y-preserved : goal.loop-y-preserved
loop-y-preserved c = let l = c.loop-y in l.invariant ∙ gcd-step l.x l.y (omega arith)

pub returns : goal.returns
returns c = let l = c.loop-y in let e : l.y ≡ 0 = omega arith in inl (sym (l.invariant ∙ rw e (gcd-zero l.x)))
