-- Laws of rounding and resolving: `Sizes` for its callers, the others for its own proofs.
pub mod Sizes
pub mod RoundingLaws
pub mod ResolvingLaws
