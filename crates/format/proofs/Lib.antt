-- The laws about the definitions, in groups, each resting on those above it.
pub mod Base
pub mod Cells
pub mod Spans
pub mod Sector
pub mod Track
pub mod Find
pub mod Written
pub mod Add
pub mod Correct
pub mod Faults
pub mod Bursts
