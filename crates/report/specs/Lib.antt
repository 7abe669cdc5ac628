-- What the contracts of `report` cite.
pub mod Room
