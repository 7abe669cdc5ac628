-- Document 01's 'walk': search states, moves, conflicts, what a valid state is, and the calls.
pub mod Search
pub mod Move
pub mod Conflict
pub mod Validity
pub mod Step
pub mod Trace
pub mod Exclude
pub mod Propagations
pub mod Listing
pub mod Computing
pub mod Examples
pub mod Brief
