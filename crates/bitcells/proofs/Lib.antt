-- The laws of the bit cells of a track, each file over those above it.
pub mod Each
pub mod FirstFault
pub mod Blocks
pub mod RoundTrip
pub mod Exactly
pub mod Lent
pub mod Outcome
pub mod SecondNumber
