-- Laws of the words.
pub mod Reading
