-- `threshold::range::fits` meets its contract. Assumes nothing.
use borrow.Author.Rules.{rules}
use Rattle.model_problems.specs.Constraint.{equalℤ}
use Rattle.model_problems.specs.Threshold.{threshold_fits}
use Rattle.threshold.proofs.range.fits.Goals as goal

pub returns-then-t-eq0 : goal.returns-then-t-eq0
unfolding threshold_fits equalℤ
returns-then-t-eq0 c = search rules

pub returns-else-t-eq0 : goal.returns-else-t-eq0
unfolding threshold_fits equalℤ
returns-else-t-eq0 c = search rules

pub returns-else-is_none_or_from_two : goal.returns-else-is_none_or_from_two
unfolding threshold_fits
returns-else-is_none_or_from_two c = search rules
