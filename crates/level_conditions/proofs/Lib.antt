-- Laws of the tests of levels.
pub mod LevelLoops
pub mod Decision
