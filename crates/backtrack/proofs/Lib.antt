-- Laws of what is saved.
pub mod Saving
pub mod Moving
