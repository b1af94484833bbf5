-- What filling the caller's list gives.
pub mod Filling
pub mod Run
