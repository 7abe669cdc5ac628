-- What the search's contracts say.
pub mod Advancing
pub mod Setting
pub mod Marking
