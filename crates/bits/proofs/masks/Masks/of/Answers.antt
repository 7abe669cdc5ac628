-- `bits::masks::Masks::of` meets its contract. Assumes nothing.
use Prim.Native.Nat.{◌+◌, ◌-◌}
use native.Mathlib.Omega.{arith}
use mathlib.Core.Path.{◌≡◌}
use Rattle.bits.proofs.masks.Masks.of.Goals as goal

pub returns-then-j-m : goal.returns-then-j-m
returns-then-j-m c = λ n kept rows k h. k.input _ c.if-j-m.true

pub returns-else-j-m : goal.returns-else-j-m
returns-else-j-m c =
    let a = c.args in
    let e : a.m + (a.j - a.m) ≡ a.j = omega arith in
    λ n kept rows k h. rw e at (k.cut (a.j - a.m) (omega arith))
