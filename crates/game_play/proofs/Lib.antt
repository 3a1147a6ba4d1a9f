pub mod Showing
pub mod Following
pub mod Plying
pub mod Rounding
