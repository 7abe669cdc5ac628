-- What the contracts of `problem` cite: document 01's number of each answer, and what a problem's arrays say.
pub mod Answer
pub mod View
