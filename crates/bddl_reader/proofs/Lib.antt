pub mod Exact
pub mod ExactOptional
pub mod ExactMany
pub mod ExactWhole
pub mod Lines
pub mod Loops
pub mod Faults
pub mod Answered
pub mod OneTree
pub mod Pushed
pub mod Spelled
pub mod SpelledLines
pub mod Spellable
mod Examples
