-- Laws of rows: how they are read, filled, tested, copied and stored; and of the ranges.
pub mod Rows
pub mod Elements
pub mod Filled
pub mod Limits
pub mod Ranges
pub mod Tests
pub mod Copying
pub mod Placing
pub mod Slices
