pub mod Decisions
pub mod Opponents
pub mod Summaries
