-- Add: the track with one sector more is accepted, with that sector behind the old ones.
pub mod NewSector
pub mod GrownSpans
pub mod AddedTrack
pub mod AddAccepted
pub mod AddPair
pub mod TenCopied
