-- What reading a track gives, in the words of the track format.
pub mod Finding
pub mod Pairing
