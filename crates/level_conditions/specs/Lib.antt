-- Levels that pass, and levels inside one another.
pub mod Nested
