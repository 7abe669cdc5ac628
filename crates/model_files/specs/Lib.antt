-- Problem files and journal records as bytes.
pub mod Bytes
pub mod File
pub mod Journal
pub mod Computing
