pub mod CodeWords
pub mod LaidOut
