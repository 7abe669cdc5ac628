-- `search::run` meets its contract. Assumes nothing.
use native.Mathlib.Omega.{arith}
use mathlib.Core.Path.{refl}
use Rattle.lists.proofs.Bools.{clash, said-no}
use Rattle.answers.specs.Answered.{answered}
use Rattle.answers.proofs.Proceeding.{after-sizes}
use Rattle.shown.proofs.Showing.{takes, run-shown, run-refused}
use Rattle.search.proofs.run.Goals as goal

pub returns-then-not-is_admitted : goal.returns-then-not-is_admitted
returns-then-not-is_admitted c = run-refused _ (said-no c.is_admitted.ensures c.if-not-is_admitted.true)

pub overflow_sub-limit : goal.overflow_sub-limit
overflow_sub-limit c = (takes c.is_admitted.ensures c.if-not-is_admitted.false).sized.afford

pub overflow_add-limit : goal.overflow_add-limit
overflow_add-limit c = let t = takes c.is_admitted.ensures c.if-not-is_admitted.false in omega (arith, t.sized.limited)

pub proceed-a-requires : goal.proceed-a-requires
proceed-a-requires c =
    let t = takes c.is_admitted.ensures c.if-not-is_admitted.false in
    record { valid = t.valid; few = t.few; kept = λ k. clash k refl; apart = λ k. refl; roomy = omega arith }

pub answer-requires : goal.answer-requires
answer-requires c =
    let z = after-sizes (takes c.is_admitted.ensures c.if-not-is_admitted.false).valid c.proceed-a.ensures in
    (z.few, z.shallow)

pub returns : goal.returns
unfolding answered
returns c = rw c.answer.ensures (run-shown _ _ _ _ _ _ (takes c.is_admitted.ensures c.if-not-is_admitted.false).admits c.proceed-a.ensures)
