pub mod Reading
pub mod Nodes
pub mod Reached
pub mod Trees
pub mod Answers
pub mod Writing
