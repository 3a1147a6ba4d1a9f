pub mod Comparing
pub mod Adding
pub mod Turns
pub mod Differences
pub mod ShortWords
