-- The second number: which part of which block is wrong where Find or Accept gives 10 or 11, that they are given for nothing else, and that it is 0 with all other answers of every call.
pub mod OtherAnswers
pub mod FindFault
pub mod AcceptFault
pub mod FaultTells
pub mod SecondNumber
