-- What the code of reading lends and judges, in terms of the definitions.
pub mod Reading
