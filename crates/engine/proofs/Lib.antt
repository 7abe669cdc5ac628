-- The argument for the loop over turns.
pub mod Beginning
pub mod Going
pub mod Deciding
pub mod Leaving
pub mod Returning
pub mod Striking
pub mod Counting
pub mod Ending
