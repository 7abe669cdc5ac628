-- Laws of the calls: opening, listing, striking out, and what the answers show.
pub mod Openings
pub mod Listing
pub mod Showing
pub mod Excluding
