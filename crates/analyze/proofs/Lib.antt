-- Laws of a conflict's functions.
pub mod Lowest
pub mod Resolvents
