-- What the calls from C give, as one number each, and the rule of the gap that their numbers name.
pub mod Packed
pub mod Numbered
