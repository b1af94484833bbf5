-- What definitions of every crate use.
pub mod Pick
pub mod Lists
pub mod Laid
pub mod Indexed
