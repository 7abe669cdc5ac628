-- What the scans and propagation give, in the model's terms.
pub mod Moves
pub mod Tracked
pub mod Bounds
pub mod Propagation
pub mod Ready
pub mod Apart
