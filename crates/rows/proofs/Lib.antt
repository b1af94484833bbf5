-- The laws of rows of numbers.
pub mod Rows
