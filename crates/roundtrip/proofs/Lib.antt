-- The laws of the chain from the record to the drive's bit cells and back, each file over those above it.
pub mod AcceptedCells
pub mod Members
pub mod WrittenSector
pub mod Chain
