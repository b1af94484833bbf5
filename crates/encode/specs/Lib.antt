-- What the writers leave in the lent buffers, and when they write.
pub mod Room
pub mod Bytes
pub mod Gap
