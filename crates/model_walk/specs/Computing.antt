-- To unfold `definitions` is to unfold every definition, here and below, that computes.
use Rattle.model_files.specs.Computing
use Rattle.model_walk.specs.Search
use Rattle.model_walk.specs.Move
use Rattle.model_walk.specs.Conflict
use Rattle.model_walk.specs.Validity
use Rattle.model_walk.specs.Step
use Rattle.model_walk.specs.Trace
use Rattle.model_walk.specs.Exclude
use Rattle.model_walk.specs.Listing
use Rattle.model_walk.specs.Propagations

unfoldable pub definitions : Unit {0}
unfolding Computing.definitions Search.reasons_at Search.set_lower_reason Search.set_upper_reason Search.hold_lower Search.hold_upper Search.raise_lower
    Search.lower_upper Search.decide_at Search.flip_at Search.depth Search.levels Search.with_levels Search.with_deepest Search.kept Search.dropped
    Search.number_at Search.kept_number Search.next_number Search.newest Search.keep Search.level_of Search.core_of Search.open_problem Search.opened_by
    Search.open_file Move.first_falsified Move.improvement_at Move.improvement_from Move.improvement_by Move.first_improvement Move.first_open Move.next_move
    Move.follow Move.slack Move.descend_for Move.descend Move.propagations_by Move.propagations_for Move.propagations_in Conflict.unchanged
    Conflict.take_if Conflict.resolve_with Conflict.resolve_kept Conflict.resolve_by Conflict.used_reason Conflict.resolve_at Conflict.analyze_from
    Conflict.analyze Conflict.first_equal Conflict.numbered_by Conflict.numbered Conflict.least_falsified Conflict.backjump_level Conflict.levels_tested
    Conflict.back_from Conflict.back_up Conflict.settled Conflict.conflict_of Conflict.learning Conflict.nothing_learned Conflict.no_learning
    Conflict.conflict_by Conflict.at_conflict Validity.scalars_valid Validity.constraints_valid Validity.thresholds_valid Validity.divisors_valid
    Validity.cut_number Validity.numbers_valid Validity.reason_valid Validity.reasons_valid Validity.level_valid Validity.levels_valid Validity.inside
    Validity.box_inside Validity.decision_valid Validity.nested_valid Validity.falsifies Validity.any_falsified Validity.outermost Validity.status_valid
    Validity.level_allowed Validity.valid Validity.within_limit Validity.admitted Validity.level_shaped Validity.constraint_shaped Validity.shaped
    Step.lowers Step.propagated Step.with_status Step.solved_by Step.budget_spent Step.record_of Step.verdict_at Step.status_at Step.counted Step.on_conflict
    Step.ended_at Step.ended Step.again Step.step_by Step.step Step.continue Step.run_for Step.without_block Step.run Step.checked Step.step_call
    Step.run_call Trace.with_blocks Trace.last_step Trace.advanced Trace.advance Trace.joined Trace.written Trace.traced_by Trace.trace_call
    Exclude.unchanged Exclude.exclude_at Exclude.exclude_by Exclude.exclude Exclude.exclude_call Exclude.exclude_within Listing.ends_with Listing.list_after
    Listing.goes_on Listing.list_from Listing.room_at Listing.list Listing.listed_in Listing.listed_by Listing.list_call Propagations.kept_by
    Propagations.bounds_set_by Propagations.bounds_set Step.block_in
definitions = tt
