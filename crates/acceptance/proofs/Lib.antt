-- What is known of acceptable problems.
pub mod Acceptance
