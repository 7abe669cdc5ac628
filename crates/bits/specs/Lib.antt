-- Masks of variables and of divisor constraints.
pub mod Masks
pub mod Walk
pub mod Divided
