-- Laws of the scans and of propagation. `States` and `Descent` are for callers, the others for this crate's own proofs.
pub mod Scans
pub mod Tracking
pub mod Passed
pub mod Fuel
pub mod Numbers
pub mod Warning
pub mod Steps
pub mod Looping
pub mod Descent
pub mod States
