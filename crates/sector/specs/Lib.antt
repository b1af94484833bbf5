-- How the code's values stand for those of the format, and the measures of what follows a count's opening.
pub mod As
pub mod Measured
pub mod Right
