-- Rows and numbers of cuts that are kept.
pub mod Storing
