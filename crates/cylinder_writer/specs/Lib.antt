-- What the code of writing is lent, in terms of the definitions.
pub mod Writing
