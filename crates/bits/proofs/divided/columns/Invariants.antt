-- `bits::divided::columns` meets its contract. Assumes nothing.
use Prim.Native.Nat.{ℕ, ◌<◌}
use mathlib.Core.Path.{◌≡◌}
use lib.ListN.{get_or, length}
use Rattle.model_problems.specs.Ranges.{max_variables}
use Rattle.bits.specs.Divided.{Due, Unmentioned}
use Rattle.bits.proofs.divided.columns.Given as goal

abbrev pub invariant-loop-i : goal.invariant-loop-i
invariant-loop-i l = record {
  long : length l.columns ≡ max_variables;
  at : (k : ℕ) → k < l.i → Due l.m l.divisors (Unmentioned l.lines k) (get_or l.columns k 0);
}
