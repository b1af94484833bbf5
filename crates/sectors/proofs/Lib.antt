-- The laws of stepping over sectors.
pub mod Rest
pub mod Stepping
pub mod From
pub mod Counted
pub mod Found
pub mod Passing
