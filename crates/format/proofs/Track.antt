-- An accepted track: its home, its spans, its sectors and the pair that holds it. Find, Add and Correct start from these.
pub mod HomeLocal
pub mod AcceptedSpans
pub mod GapsFree
pub mod Pairs
pub mod Sectors
pub mod ListAccepted
pub mod Pieces
pub mod RecordBounds
pub mod TakenApart
pub mod Numbers
pub mod SharedAddress
