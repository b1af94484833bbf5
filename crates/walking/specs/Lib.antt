-- A reader of Walk, and what a step of it does.
pub mod Walked
