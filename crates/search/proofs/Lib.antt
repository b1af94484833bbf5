-- The laws of the searches.
pub mod Cells
pub mod Home
pub mod Fold
pub mod Zero
pub mod Word
pub mod Step
pub mod Run
pub mod Jump
pub mod Openings
