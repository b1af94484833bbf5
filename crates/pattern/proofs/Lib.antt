-- The laws of the bit cells of one byte, each file over those above it.
pub mod Inverse
pub mod Worked
pub mod Legal
pub mod Masks
