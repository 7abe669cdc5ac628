-- `validate::is_admitted` meets its contract. Assumes nothing.
use native.Mathlib.Omega.{arith}
use borrow.Author.Rules.{rules}
use Rattle.state.specs.View.{inputs_of}
use Rattle.conditions.proofs.Rows.{few_kept}
use Rattle.conditions.proofs.Views.{constraints-view, divisors-view}
use Rattle.validate.proofs.Valid.{parts, passed}
use Rattle.validate.proofs.is_admitted.Goals as goal

pub kept_count-requires : goal.kept_count-requires
kept_count-requires c = let z = passed _ _ c.are_sizes_valid.ensures c.if-are_sizes_valid.true in omega arith

pub are_in_range-requires : goal.are_in_range-requires
are_in_range-requires c = let z = passed _ _ c.are_sizes_valid.ensures c.if-are_sizes_valid.true in let k = few_kept c.args.s.now.made in search rules

pub are_divisors_in_range-requires : goal.are_divisors_in_range-requires
are_divisors_in_range-requires c = let z = passed c.args.s.now _ c.are_sizes_valid.ensures in search (rules, z)

pub are_thresholds-requires : goal.are_thresholds-requires
are_thresholds-requires c = let z = passed c.args.s.now _ c.are_sizes_valid.ensures in search (rules, z)

pub are_cuts_numbered-requires : goal.are_cuts_numbered-requires
are_cuts_numbered-requires c = let z = passed c.args.s.now _ c.are_sizes_valid.ensures in search (rules, z)

pub are_levels_valid-requires : goal.are_levels_valid-requires
are_levels_valid-requires c = let z = passed c.args.s.now _ c.are_sizes_valid.ensures in search (rules, z)

pub is_mark_valid-requires-clause-passed : goal.is_mark_valid-requires-clause-passed
unfolding inputs_of
is_mark_valid-requires-clause-passed c =
    let z = passed c.args.s.now _ c.are_sizes_valid.ensures in
    let k = constraints-view c.args.s.now in
    let d = divisors-view c.args.s.now in
    search (rules, z)

pub is_mark_valid-requires-clause-depth : goal.is_mark_valid-requires-clause-depth
is_mark_valid-requires-clause-depth c = let z = passed c.args.s.now _ c.are_sizes_valid.ensures in search (rules, z)

pub returns-then-is_mark_valid : goal.returns-then-is_mark_valid
unfolding inputs_of
returns-then-is_mark_valid c = let p = parts c.args.s.now in search rules

pub returns-else-is_mark_valid : goal.returns-else-is_mark_valid
unfolding inputs_of
returns-else-is_mark_valid c = let p = parts c.args.s.now in search rules
