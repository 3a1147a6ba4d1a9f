pub mod Turns
pub mod Places
pub mod Benches
pub mod Checking
pub mod LeastNodes
pub mod Sharing
pub mod Placing
