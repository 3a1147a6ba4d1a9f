pub mod Constraints
pub mod Rows
pub mod Kept
