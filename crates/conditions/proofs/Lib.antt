-- Laws of the conditions, one by one.
pub mod Views
pub mod Sizes
pub mod Rows
pub mod Marks
