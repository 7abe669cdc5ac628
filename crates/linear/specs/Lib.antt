-- What the arithmetic of constraints asks of its callers, and what its answers mean.
pub mod Ranges
pub mod Reach
pub mod Improvement
