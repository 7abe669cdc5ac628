-- `bits::divided::Divided::first_falsified` meets its contract: the constraints whose bit is gone are not falsified. Assumes nothing.
use Prim.Native.Nat.{ℕ, ◌<◌, ◌^◌}
use mathlib.Core.Bool.{false}
use mathlib.Core.Logic.{◌⊎◌}
use mathlib.Core.Path.{◌≡◌}
use Rattle.model_problems.specs.Constraint.{falsified}
use Rattle.layout.specs.Rows.{input_at, box_of}
use Rattle.bits.specs.Masks.{bit}
use Rattle.bits.proofs.divided.Divided.first_falsified.Given as goal

abbrev pub invariant-loop-j : goal.invariant-loop-j
invariant-loop-j l = record {
  inside : l.j-iterator.0 < 2 ^ l.m;
  gone : (j : ℕ) → bit l.j-iterator.0 j ≡ 0 → (bit l.due j ≡ 0) ⊎ (falsified (input_at l.n l.self.lines l.self.divisors j) (box_of l.n l.level.lower l.level.upper) ≡ false);
}
