-- `problem::check` meets its contract. Assumes nothing.
use borrow.Author.Rules.{rules}
use Rattle.lists.proofs.Bools.{said-yes}
use Rattle.problem.proofs.Checking.{sized, variables-few, constraints-few, size-range, domain-range, threshold-range, coefficient-range, divisor_range, no-error}
use Rattle.problem.proofs.check.Goals as goal

pub returns-then-not-sizes_in_range : goal.returns-then-not-sizes_in_range
returns-then-not-sizes_in_range c = search size-range

pub are_bounds_in_range-requires : goal.are_bounds_in_range-requires
are_bounds_in_range-requires c = let h = variables-few c.args.problem (sized c.args.problem _ c.sizes_in_range.ensures c.if-not-sizes_in_range.false) in search rules

pub returns-then-not-are_bounds_in_range : goal.returns-then-not-are_bounds_in_range
returns-then-not-are_bounds_in_range c = search (domain-range, sized)

pub all_fit-requires : goal.all_fit-requires
all_fit-requires c = let h = variables-few c.args.problem (sized c.args.problem _ c.sizes_in_range.ensures c.if-not-sizes_in_range.false) in search rules

pub returns-then-not-all_fit : goal.returns-then-not-all_fit
returns-then-not-all_fit c = search (threshold-range, sized, said-yes)

pub are_in_range-requires : goal.are_in_range-requires
are_in_range-requires c =
    let t = sized c.args.problem _ c.sizes_in_range.ensures c.if-not-sizes_in_range.false in
    let h = variables-few c.args.problem t in
    let k = constraints-few c.args.problem t in
    search rules

pub returns-then-not-are_in_range : goal.returns-then-not-are_in_range
returns-then-not-are_in_range c = search (coefficient-range, sized, said-yes)

pub are_divisors_in_range-requires : goal.are_divisors_in_range-requires
are_divisors_in_range-requires c = search (rules, constraints-few, sized)

pub returns-then-not-are_divisors_in_range : goal.returns-then-not-are_divisors_in_range
returns-then-not-are_divisors_in_range c = search (divisor_range, sized, said-yes, c.are_divisors_in_range.ensures)

pub returns : goal.returns
returns c = search (no-error, sized, said-yes, c.are_divisors_in_range.ensures)
