-- Correct: the track with a new key and data is accepted; two corrections in either order give one track.
pub mod Replaced
pub mod Relaid
pub mod RelaidReads
pub mod Rewritten
pub mod Corrected
pub mod Orders
pub mod PairOrders
pub mod ManyOrders
pub mod CorrectPair
