-- How the code's flat arrays are read as the model's constraints and boxes, and what the contracts of `layout` cite.
pub mod Rows
pub mod Copies
pub mod Sizes
