-- First-written form: of sectors as spans, and of a blank track. Add and Correct write by these laws.
pub mod Outcome
pub mod Gap
pub mod WrittenSpans
pub mod WrittenEnds
pub mod ShortenedSpan
pub mod OneBehind
pub mod WrittenHome
pub mod BlankAccepted
pub mod ByRule
