-- The laws about what is written, one theme to a file.
pub mod Room
pub mod Closing
pub mod Blocks
pub mod Cells
pub mod Openings
pub mod Sectors
