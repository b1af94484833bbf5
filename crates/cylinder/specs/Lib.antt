-- A cylinder and its one file: what is lent, packed marks, the file, writing and reading.
pub mod Cylinder
pub mod Packed
pub mod File
pub mod Writing
pub mod Reading
pub mod Answers
