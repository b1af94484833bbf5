-- The bit cells of one byte.
pub mod Pattern
