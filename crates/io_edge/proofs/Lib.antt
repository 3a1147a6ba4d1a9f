pub mod Fronts
pub mod Steps
pub mod Added
pub mod Calls
