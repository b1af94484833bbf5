-- What the proofs of the functions share.
pub mod Octets
pub mod Pieces
