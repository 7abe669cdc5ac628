-- What is saved of the constraints at the levels above.
pub mod Saved
pub mod Jumps
