-- Laws of the functions that read and write blocks.
pub mod Reading
pub mod Checking
pub mod Placing
pub mod Unsigning
pub mod Sealing
