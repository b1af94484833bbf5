-- The laws that lead from judging a track to the definitions.
pub mod AcceptBytes
pub mod AcceptHome
pub mod AcceptAnswers
pub mod Starts
pub mod MarkToMark
pub mod AcceptSpans
pub mod AcceptFirst
pub mod AcceptNumbers
pub mod AcceptBehind
pub mod AcceptLegal
pub mod AcceptWrong
pub mod AcceptTable
