-- What the proofs of the functions share, and those of reading and writing.
pub mod Listed
pub mod Part
