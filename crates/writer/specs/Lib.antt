-- What the writing calls lay out, and what remains to be laid out.
pub mod Filled
pub mod Remaining
