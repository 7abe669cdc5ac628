-- Laws of kept cuts: stored, and numbered.
pub mod Storing
pub mod Numbering
