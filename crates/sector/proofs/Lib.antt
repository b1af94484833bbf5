-- The laws that lead from the bytes of a span to the definitions.
pub mod Opening
pub mod Block
pub mod BlocksJudged
pub mod MeasuredLemmas
pub mod Right
