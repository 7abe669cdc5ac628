-- `linear::divisibility::is_indivisible` meets its contract: g and sum are the divisor and the rest's value of the variables from i on. Assumes nothing.
use Prim.Native.Nat.{◌<◌, ◌-◌, ◌*◌}
use mathlib.Core.Path.{◌≡◌}
use Rattle.integer.specs.Size.{Within}
use Rattle.linear.specs.Ranges.{widest_term}
use Rattle.linear.proofs.Dividing.{open_from, fixed_from}
use Rattle.linear.proofs.divisibility.is_indivisible.Given as goal

abbrev pub invariant-loop-i : goal.invariant-loop-i
invariant-loop-i l = record {
  divisor : l.g ≡ open_from l.n l.rows l.start l.lower l.upper l.q l.i;
  value : l.sum ≡ fixed_from l.n l.rows l.start l.lower l.upper l.i;
  size : Within ((l.n - l.i) * widest_term) l.sum;
  nonzero : 0 < l.g;
}
