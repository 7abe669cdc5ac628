-- What a problem means: constraints of both sorts, bounds, thresholds, problems, points and solutions.
pub mod Lists
pub mod Ranges
pub mod Division
pub mod Constraint
pub mod Threshold
pub mod Problem
pub mod Points
pub mod Computing
pub mod Examples
pub mod ProblemCases
