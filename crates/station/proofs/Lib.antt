-- The laws that lead from the calls of C to the definitions.
pub mod Places
pub mod Fields
pub mod Unpacked
pub mod Numbered
