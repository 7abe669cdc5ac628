-- To unfold `definitions` is to unfold every definition, here and below, that computes.
use Rattle.model_problems.specs.Lists
use Rattle.model_problems.specs.Ranges
use Rattle.model_problems.specs.Division
use Rattle.model_problems.specs.Constraint
use Rattle.model_problems.specs.Threshold
use Rattle.model_problems.specs.Problem
use Rattle.model_problems.specs.Points

unfoldable pub definitions : Unit {0}
unfolding Lists.tab Lists.parts Lists.sum Lists.all Lists.all_of Lists.any_of Lists.filter Lists.all_pairs Lists.or_else Lists.with_default Ranges.within
    Division.floor_div Division.ceil_div Division.exact_div Division.gcd_with Division.gcd Division.divides Constraint.modulus Constraint.is_inequality
    Constraint.is_open Constraint.open_divisor Constraint.fixed_terms Constraint.fixed_value Constraint.falsified_by Constraint.coefficient_at
    Constraint.lower_at Constraint.upper_at Constraint.set_lower Constraint.set_upper Constraint.term Constraint.terms Constraint.activity
    Constraint.falsified Constraint.implied_upper Constraint.implied_lower Constraint.common_divisor Constraint.rounded_by Constraint.rounded_as
    Constraint.none_or_from_two Constraint.is_divisor Constraint.divisor_in_range Constraint.rounded Constraint.mixed Constraint.combination
    Constraint.resolvent Constraint.opposite Constraint.in_range Constraint.equalℤ Constraint.equal Threshold.threshold_at Threshold.in_gap
    Threshold.allowed Threshold.lifted Threshold.sunk Threshold.next_value Threshold.threshold_fits Threshold.is_threshold Threshold.outside_gap
    Problem.variables Problem.sizes_in_range Problem.bounds_in_range Problem.domain_in_range Problem.thresholds_in_range Problem.constraints_in_range
    Problem.divisors_in_range Problem.first_error Problem.result_of Points.whole_numbers Points.numbers_from Points.values Points.prefixed Points.points_in
    Points.all_points Points.points Points.dot Points.value Points.is_met_by Points.is_met Points.is_solution Points.all_solutions
definitions = tt
