pub mod Prenexing
pub mod Joined
pub mod Pushed
pub mod Whole
