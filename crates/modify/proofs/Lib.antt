-- Laws of problems changed, and of the arrays that say them.
pub mod Solutions
pub mod Acceptability
pub mod Changes
pub mod Rows
pub mod Views
pub mod Keeping
