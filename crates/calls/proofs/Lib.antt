-- What each call shows of the model's answer, and the claims.
pub mod RoundTrips
pub mod Shown
pub mod Lists
pub mod Demand
pub mod Openings
pub mod Replies
pub mod Tallies
pub mod InPlace
pub mod Listing
pub mod Files
