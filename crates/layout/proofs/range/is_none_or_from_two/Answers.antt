use Rattle.std.proofs.Common.{rules}
use Rattle.model_problems.specs.Constraint.{none_or_from_two, equalℤ}
use Rattle.layout.proofs.range.is_none_or_from_two.Goals as goal

pub returns-then-q-eq0 : goal.returns-then-q-eq0
unfolding none_or_from_two equalℤ
returns-then-q-eq0 c = search rules

pub returns-else-q-eq0 : goal.returns-else-q-eq0
unfolding none_or_from_two equalℤ
returns-else-q-eq0 c = search rules
