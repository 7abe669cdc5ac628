-- What a counted conflict asks and leaves, and what is learned from it.
pub mod Learning
pub mod Counting
