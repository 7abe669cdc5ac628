-- What the contracts of `opening` cite.
pub mod Accepted
pub mod Rounded
