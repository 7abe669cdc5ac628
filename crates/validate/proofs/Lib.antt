-- Laws of the whole test.
pub mod Valid
