-- One sector and its span: what is read of it, and that what is written reads back. The groups behind look at no byte of a count or block.
pub mod Sizes
pub mod BlockEnd
pub mod BlocksJudged
pub mod FaultBytes
pub mod ReadSector
pub mod WrittenRest
pub mod Valid
pub mod ReadBack
pub mod ReadsAs
pub mod ReadPrefix
pub mod OtherRest
pub mod Regapped
pub mod CountRight
