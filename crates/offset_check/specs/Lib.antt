pub mod Checks
pub mod Named
