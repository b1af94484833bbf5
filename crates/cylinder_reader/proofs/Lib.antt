-- What the proofs of the functions share.
pub mod Marks
pub mod Pieces
