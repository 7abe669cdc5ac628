-- Laws of the view of a search state.
pub mod Levels
pub mod Cores
pub mod Positions
pub mod Shape
pub mod Moved
