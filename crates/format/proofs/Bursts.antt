-- Short bursts: a field in which bits are altered among sixteen successive ones is not closed; Accept refuses the track for that field, and Find does if asked for that sector or part.
pub mod Field
pub mod Rest
pub mod AlteredBytes
pub mod AlteredHome
pub mod AlteredSpan
pub mod AlteredCandidates
pub mod AlteredSector
pub mod HomeBurst
pub mod SectorBurst
pub mod AcceptBurst
pub mod FindBurst
