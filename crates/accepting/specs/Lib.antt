-- What judging a track gives, in the words of the track format.
pub mod Starts
pub mod Accepting
pub mod Wrong
