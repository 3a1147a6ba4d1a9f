pub mod Pairs
pub mod Runs
pub mod Starts
pub mod Steps
pub mod Views
pub mod Coded
