-- What a caller sees of an answer, and what the documents say of it.
pub mod Seen
pub mod Opening
pub mod Excluding
pub mod Listing
