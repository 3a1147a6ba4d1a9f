pub mod Scanning
pub mod MarkSets
pub mod States
pub mod Answers
