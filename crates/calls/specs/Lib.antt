-- The claims: round trips, openings, every list of turns, and every list of calls with strikes and listings among them.
pub mod RoundTrips
pub mod Calls
pub mod Listing
pub mod Openings
pub mod Files
