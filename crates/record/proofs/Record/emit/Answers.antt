-- `record::Record::emit` meets its contract. Assumes nothing.
use native.Mathlib.Omega.{arith}
use Rattle.record.proofs.Emitting.{left_alone, part_length, part-written}
use Rattle.record.proofs.Record.emit.Goals as goal

pub overflow_mul-a : goal.overflow_mul-a
overflow_mul-a c = omega (arith, c.requires c.if-keep.true)

pub overflow_add-a : goal.overflow_add-a
overflow_add-a c = omega (arith, c.requires c.if-keep.true)

pub slice_bounds-write-end : goal.slice_bounds-write-end
slice_bounds-write-end c = omega (arith, c.requires c.if-keep.true)

pub write-requires : goal.write-requires
write-requires c = part_length _ _ (c.requires c.if-keep.true)

pub returns-then-keep : goal.returns-then-keep
returns-then-keep c = part-written _ _ (c.requires c.if-keep.true) c.if-keep.true c.write.auto.out c.write.ensures

pub returns-else-keep : goal.returns-else-keep
returns-else-keep c = left_alone _ _ c.if-keep.false
