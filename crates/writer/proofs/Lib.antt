-- The laws about what the writing calls leave in the lent buffers.
pub mod Outcome
pub mod Filled
pub mod Blanked
pub mod Farthest
pub mod Later
pub mod Corrected
pub mod Judging
pub mod Added
