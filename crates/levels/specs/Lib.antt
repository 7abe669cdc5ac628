-- Numbers copied, the backjump level among the levels of a search, and the values of solutions struck out.
pub mod Copied
pub mod Level
pub mod Struck
