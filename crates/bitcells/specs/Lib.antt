-- The bit cells of a track in the order of their text: byte by byte, the two calls, what they turn into each other.
pub mod Each
pub mod FromCells
pub mod ToCells
pub mod Legal
pub mod Judging
