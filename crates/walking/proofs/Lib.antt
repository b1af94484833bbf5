-- The laws of a reader of Walk.
pub mod Places
pub mod Visits
