pub mod Values
pub mod Tails
pub mod Standing
pub mod Answers
