-- Laws of the groups of functions.
pub mod FileTests
pub mod Arrays
pub mod Writing
