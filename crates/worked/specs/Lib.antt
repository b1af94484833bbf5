pub mod Tracks
pub mod Table
