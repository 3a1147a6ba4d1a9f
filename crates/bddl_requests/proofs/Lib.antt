mod Results
mod Built
mod Answered
pub mod Deciding
pub mod Certifying
pub mod Transcripts
pub mod Seats
pub mod Early
mod Summaries
