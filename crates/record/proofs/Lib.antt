-- Laws of the functions that write records, and of the bytes that they write.
pub mod Putting
pub mod Emitting
pub mod Narrow
