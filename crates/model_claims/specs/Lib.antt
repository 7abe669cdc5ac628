-- What is claimed of every list of calls.
pub mod Demand
pub mod Enumeration
pub mod Computing
