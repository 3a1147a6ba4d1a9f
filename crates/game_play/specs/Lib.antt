pub mod Replies
pub mod Plays
pub mod Players
pub mod Shown
pub mod Plies
pub mod Rounds
