-- Problems changed: what the changes are, what holds of them, and a constraint put in place.
pub mod Changed
pub mod Changes
pub mod ChangedCases
pub mod Stored
