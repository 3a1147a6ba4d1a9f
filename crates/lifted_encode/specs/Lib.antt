pub mod Asking
pub mod Chosen
pub mod Telling
pub mod Followed
pub mod Joined
pub mod Encoded
