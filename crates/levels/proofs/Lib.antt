-- Laws of numbers copied, and of levels inside each other.
pub mod Copying
pub mod Nesting
