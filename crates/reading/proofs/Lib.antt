-- Laws of reading: the cascade of its errors, and the arrays that are read.
pub mod ReadCascade
pub mod Arrays
