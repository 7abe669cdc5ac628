-- What is known of a problem that is written.
pub mod Writable
