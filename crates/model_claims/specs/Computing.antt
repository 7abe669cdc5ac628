-- To unfold `definitions` is to unfold every definition, here and below, that computes.
use Rattle.model_walk.specs.Computing
use Rattle.model_claims.specs.Enumeration
use Rattle.model_claims.specs.Demand

unfoldable pub definitions : Unit {0}
unfolding Computing.definitions Enumeration.traced Enumeration.excluded Enumeration.taken Enumeration.answered_by Enumeration.answer Enumeration.walk
    Enumeration.says Enumeration.shown_in Enumeration.stands_after Enumeration.stands Enumeration.shown Enumeration.struck_in Enumeration.strikes
    Enumeration.turns_of Enumeration.set_by Enumeration.set_in Demand.after Demand.state_after Demand.answer_at Demand.blocks_in Demand.journal
    Demand.with_budget Demand.verdict_with
definitions = tt
