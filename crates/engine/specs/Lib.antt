-- What the loop's contracts say.
pub mod Given
pub mod Walk
