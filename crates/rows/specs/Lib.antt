-- List as rows of numbers.
pub mod Rows
