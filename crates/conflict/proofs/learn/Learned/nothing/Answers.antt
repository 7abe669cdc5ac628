-- `conflict::learn::Learned::nothing` meets its contract. Assumes nothing.
use mathlib.Core.Path.{refl}
use Prim.Native.Nat.{ℕ}
use Rattle.model_problems.specs.Ranges.{max_variables}
use Rattle.lists.proofs.Tab.{get_d-const}
use Rattle.layout.specs.Rows.{row_length}
use Rattle.conflict.proofs.Dismissing.{zero-at}
use Rattle.conflict.proofs.learn.Learned.nothing.Goals as goal

pub returns : goal.returns
returns c = record { cut_zero = zero-at row_length; used_zero = get_d-const {A = ℕ} 0 max_variables; number_zero = refl }
