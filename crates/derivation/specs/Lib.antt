-- What rounding and resolving ask of their callers, and what their answers mean.
pub mod Sized
pub mod Resolvable
pub mod Excess
