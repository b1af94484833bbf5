-- The sector at a place of a track, and the sectors of a track from a place on.
pub mod SectorAt
pub mod From
