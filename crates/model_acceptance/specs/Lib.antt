-- Problems in hand: which are acceptable, and opening one.
pub mod Acceptable
pub mod AcceptableCases
