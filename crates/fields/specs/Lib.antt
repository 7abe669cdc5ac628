-- What the contracts of `fields` cite.
pub mod Sizes
pub mod Fields
