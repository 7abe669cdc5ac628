-- What a contract says of a state that the search takes.
pub mod Valid
