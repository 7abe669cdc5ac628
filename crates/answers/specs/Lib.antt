-- What turns repeated ask of a state, and the answer to a caller from where they end.
pub mod Answered
