-- Laws of opening: the rows, the state, and that what reading accepts can be opened.
pub mod Rows
pub mod Opened
pub mod Accepted
