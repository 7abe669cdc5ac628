-- Laws of turns from any valid state, and of the answer where they end.
pub mod Proceeding
pub mod Answering
