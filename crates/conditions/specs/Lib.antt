-- What the tests of a search state ask of it, and the parts of validity in the terms of the code's arrays.
pub mod Passed
pub mod Sizes
pub mod Marks
