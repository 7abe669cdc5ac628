-- `search::list` meets its contract. Assumes nothing.
use native.Mathlib.Nat.{mul-div-le}
use native.Mathlib.Omega.{arith}
use mathlib.Core.Path.{refl}
use Rattle.lists.proofs.Bools.{clash, said-no}
use Rattle.answers.proofs.Proceeding.{after-sizes}
use Rattle.shown.proofs.Showing.{takes, list-shown, list-refused}
use Rattle.search.proofs.list.Goals as goal

pub returns-then-not-is_admitted : goal.returns-then-not-is_admitted
returns-then-not-is_admitted c = list-refused _ _ (said-no c.is_admitted.ensures c.if-not-is_admitted.true)

pub nonzero_div-room : goal.nonzero_div-room
nonzero_div-room c = let t = takes c.is_admitted.ensures c.if-not-is_admitted.false in omega (arith, t.sized.some)

pub overflow_sub-turns : goal.overflow_sub-turns
overflow_sub-turns c = (takes c.is_admitted.ensures c.if-not-is_admitted.false).sized.afford

pub overflow_add-turns : goal.overflow_add-turns
overflow_add-turns c = let t = takes c.is_admitted.ensures c.if-not-is_admitted.false in omega (arith, t.sized.limited)

pub proceed-a-requires : goal.proceed-a-requires
proceed-a-requires c =
    let t = takes c.is_admitted.ensures c.if-not-is_admitted.false in
    record { valid = t.valid; few = t.few; kept = λ k. clash k refl; apart = λ k. clash k refl; roomy = mul-div-le _ _ }

pub answer-requires : goal.answer-requires
answer-requires c =
    let z = after-sizes (takes c.is_admitted.ensures c.if-not-is_admitted.false).valid c.proceed-a.ensures in
    (z.few, z.shallow)

pub returns : goal.returns
returns c = rw c.answer.ensures (list-shown _ _ _ _ _ _ (takes c.is_admitted.ensures c.if-not-is_admitted.false).admits c.proceed-a.ensures)
