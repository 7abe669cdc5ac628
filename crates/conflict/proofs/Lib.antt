-- What the proofs of a counted conflict share: keeping a cut and its mask, learning, and a conflict that teaches nothing.
pub mod Keeping
pub mod Learning
pub mod Dismissing
pub mod Masking
