-- The laws that lead from reading a track to the definitions.
pub mod CandidateParts
pub mod CandidateNext
pub mod CandidatePlaces
pub mod CandidateBehind
pub mod FindSteps
pub mod FindPart
pub mod FindPair
