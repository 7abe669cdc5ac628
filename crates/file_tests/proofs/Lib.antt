-- Laws that the answers share.
pub mod Both
