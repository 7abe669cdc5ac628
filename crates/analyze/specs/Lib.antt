-- What a conflict's functions say of the state's arrays.
pub mod Analyzable
pub mod Analyzed
