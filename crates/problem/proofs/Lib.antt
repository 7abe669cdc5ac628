-- Laws of what a problem's arrays say, of its tests, and of the numbers of errors.
pub mod Views
pub mod Numbers
pub mod Checking
