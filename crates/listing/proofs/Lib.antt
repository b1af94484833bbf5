-- The laws of filling the caller's list.
pub mod Stored
pub mod Listed
pub mod Beginning
