-- The laws of the model's lists, tests and options.
pub mod Bools
pub mod Tab
pub mod Parts
pub mod Sum
pub mod All
pub mod AllOf
pub mod AnyOf
pub mod AllPairs
pub mod Loops
pub mod Options
pub mod Chains
