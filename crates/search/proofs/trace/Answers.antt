-- `search::trace` meets its contract. Assumes nothing.
use native.Mathlib.Omega.{arith}
use mathlib.Core.Path.{refl}
use Rattle.lists.proofs.Bools.{said-no}
use Rattle.answers.proofs.Proceeding.{after-sizes}
use Rattle.shown.proofs.Showing.{takes, trace-shown, trace-refused}
use Rattle.search.proofs.trace.Goals as goal

pub returns-then-not-is_admitted : goal.returns-then-not-is_admitted
returns-then-not-is_admitted c = trace-refused _ _ (said-no c.is_admitted.ensures c.if-not-is_admitted.true)

pub proceed-a-requires : goal.proceed-a-requires
proceed-a-requires c =
    let t = takes c.is_admitted.ensures c.if-not-is_admitted.false in
    record { valid = t.valid; few = t.few; kept = λ k. omega arith; apart = λ k. refl; roomy = omega arith }

pub answer-requires : goal.answer-requires
answer-requires c =
    let z = after-sizes (takes c.is_admitted.ensures c.if-not-is_admitted.false).valid c.proceed-a.ensures in
    (z.few, z.shallow)

pub returns : goal.returns
returns c = rw c.answer.ensures (trace-shown _ _ _ _ _ _ (takes c.is_admitted.ensures c.if-not-is_admitted.false).admits c.proceed-a.ensures)
