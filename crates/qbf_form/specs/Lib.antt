pub mod Places
pub mod Stored
pub mod Pairs
pub mod TailMarks
