-- Laws of striking out a solution.
pub mod Striking
