-- The definitions computed: document 01's reference table, and the cases beside it.
pub mod Examples
pub mod Table
pub mod SearchCases
pub mod DivisorCases
pub mod ThresholdCases
pub mod ExclusionCases
pub mod ListingCases
pub mod PropagationCases
pub mod FileCases
pub mod ValidityCases
pub mod Cases
