-- The search state as the model's, and changes of a level.
pub mod View
pub mod Change
pub mod Position
pub mod Moved
