-- Candidates, and what Find, Pair find and Walk give by them: the laws of the calls that read.
pub mod SpanCandidates
pub mod AcceptedCandidates
pub mod CandidateMeans
pub mod CandidateBytes
pub mod FindParts
pub mod FindSound
pub mod FindAccepted
pub mod PairFindSound
pub mod WalkSteps
