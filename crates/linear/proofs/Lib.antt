-- Laws of the arithmetic of constraints: `Ranges` and `Sizes` for its callers, the others for its own proofs.
pub mod Ranges
pub mod Terms
pub mod Implied
pub mod Reaching
pub mod Dividing
pub mod Quotients
